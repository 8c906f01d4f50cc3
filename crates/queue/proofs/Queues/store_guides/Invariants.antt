-- `store_guides` meets its contract.
use Rattle.queue.specs.Methods.{memory, Same}
use Rattle.queue.proofs.Entered.{Walking}
use Rattle.queue.proofs.Queues.store_guides.Given as goal

abbrev pub invariant-loop-i : goal.invariant-loop-i
invariant-loop-i l =
    let q = l.initial.self in
    Same q l.self × Walking q.vertices q.tables q.anchor.now q.guides.now l.s l.x (memory q) l.i (memory l.self)

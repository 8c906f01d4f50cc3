-- `clear_all` meets its contract.
use Rattle.queue.specs.Methods.{memory, Same}
use Rattle.queue.proofs.Built.{Clearing}
use Rattle.queue.proofs.Queues.clear_all.Given as goal

abbrev pub invariant-loop-i : goal.invariant-loop-i
invariant-loop-i l =
    Same l.initial.self l.self × Clearing l.self.vertices l.i (memory l.initial.self) (memory l.self)

-- `build` meets its contract.
use Rattle.workspace.specs.Layout.{mem}
use Rattle.queue.specs.Methods.{memory, Made}
use Rattle.queue.proofs.Built.{Entered}
use Rattle.queue.proofs.Queues.build.Given as goal

abbrev pub invariant-loop-s : goal.invariant-loop-s
invariant-loop-s l =
    let q = l.fn.self in
    Made l.vertices.size.vertices q l.self
    × Entered l.vertices.size q.tables q.anchor.now q.guides.now (mem l.vertices.work.now l.vertices.wide.now) l.s (memory l.self)

-- `clear_all` meets its contract.
use Rattle.queue.specs.Methods.{memory}
use Rattle.queue.proofs.Built.{clearing_more, clearing_all, made_then}
use Rattle.queue.proofs.Queues.clear_all.Goals as goal

pub loop-i-preserved : goal.loop-i-preserved
loop-i-preserved c =
    let y = c.loop-i.invariant in
    let u = c.clear.ensures in
    let r = c.requires in (
      made_then _ _ _ _ y.0 u.same,
      rw u.same.vertices
          (clearing_more _ (memory c.args.self.now) c.args.self.now.tables.guides c.loop-i.i (memory c.loop-i.self) r.1 (rw y.0.vertices r.2) y.1 c.loop-i-test.true _ u.table),
    )

pub returns-clause-cleared : goal.returns-clause-cleared
returns-clause-cleared c =
    let y = c.loop-i.invariant in
    rw (← y.0.vertices) (clearing_all _ _ _ c.loop-i.i (memory c.loop-i.self) y.1 c.loop-i-test.false)

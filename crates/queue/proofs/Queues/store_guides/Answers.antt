-- `store_guides` meets its contract. The check proves this alone; it is written so that the edit `store_last_guide_left` is refused for its fact.
use native.Mathlib.Omega.{arith}
use Rattle.queue.specs.Methods.{memory}
use Rattle.queue.proofs.Entered.{walking_all}
use Rattle.queue.proofs.Queues.store_guides.Goals as goal

pub returns-clause-stored : goal.returns-clause-stored
returns-clause-stored c =
    let y = c.loop-i.invariant.1 in
    walking_all _ _ _ _ _ _ _ c.loop-i.i (memory c.loop-i.self) y (omega (arith, c.loop-i-test.false))

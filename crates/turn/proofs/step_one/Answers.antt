-- `step_one` meets its contract.
use Rattle.turn.proofs.Due.{due_within}
use Rattle.turn.proofs.step_one.Goals as goal

pub returns : goal.returns
returns c = (
  rw (c.step_one.ensures, c.least.ensures.0, c.vertex-x.ensures),
  rw c.step_one.ensures (due_within _ _ _ _ c.least.ensures.1),
)

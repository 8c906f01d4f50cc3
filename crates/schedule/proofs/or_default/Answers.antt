-- `or_default` meets its contract.
use Rattle.schedule.proofs.Taken.{default_there, given_there}
use Rattle.schedule.proofs.or_default.Goals as goal

pub returns-then-is_empty : goal.returns-then-is_empty
returns-then-is_empty c = default_there _ _ c.if-is_empty.ensures

pub returns-else-is_empty : goal.returns-else-is_empty
returns-else-is_empty c = given_there _ _ c.if-is_empty.ensures

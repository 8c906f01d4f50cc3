-- `schedule_fails` meets its contract: by its tests. Named, so that a wrong test is refused with a length that breaks it.
use Rattle.std.proofs.Common.{arith}
use Rattle.search.specs.Call.{unfit_schedule}
use Rattle.schedule.proofs.schedule_fails.Goals as goal

pub returns-then-out_of_range : goal.returns-then-out_of_range
unfolding unfit_schedule
returns-then-out_of_range c = grind arith

pub returns-else-out_of_range : goal.returns-else-out_of_range
unfolding unfit_schedule
returns-else-out_of_range c = grind arith

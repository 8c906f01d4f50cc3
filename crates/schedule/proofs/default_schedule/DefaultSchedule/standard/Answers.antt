-- `standard` meets its contract: our six rounds, and zeros behind them.
use Rattle.search.specs.Job.{standard}
use Rattle.schedule.specs.DefaultSchedule.{initial}
use Rattle.schedule.proofs.default_schedule.DefaultSchedule.standard.Goals as goal

pub returns : goal.returns
unfolding initial standard
returns c = rw c.laid-numbers.ensures

-- `factors` meets its contract: both are numbers of the schedule.
use native.Mathlib.Omega.{arith}
use Rattle.schedule.proofs.Taken.{pairs_within, pairs_at}
use Rattle.schedule.proofs.factors.Goals as goal

pub bounds-schedule-i : goal.bounds-schedule-i
bounds-schedule-i c = omega (arith, pairs_within _ _ c.requires)

pub bounds-schedule-i-2 : goal.bounds-schedule-i-2
bounds-schedule-i-2 c = omega (arith, pairs_within _ _ c.requires)

pub returns : goal.returns
returns c = pairs_at _ _ _ c.requires

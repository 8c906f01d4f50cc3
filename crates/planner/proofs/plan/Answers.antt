-- `plan` meets its contract: refused as it must be, or answered as defined, with the guarantee.
use native.Mathlib.Omega.{arith}
use Rattle.planner.proofs.Handed.{planned_refused, admission, planned}
use Rattle.planner.proofs.plan.Goals as goal

pub returns-in_err-size : goal.returns-in_err-size
returns-in_err-size c = planned_refused _ _ _ c.decide.ensures _ c.in_err-size.was _ (grind arith)

pub answer-requires : goal.answer-requires
answer-requires c = admission _ _ _ c.decide.ensures _ _ c.in_ok-size.was

pub returns : goal.returns
returns c = planned _ _ _ c.answer.ensures

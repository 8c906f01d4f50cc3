-- `secondcoop_plan` meets its contract: the planner call's own.
use Rattle.ffi_planner.proofs.Handing.{exported}
use Rattle.ffi_planner.proofs.secondcoop_plan.Goals as goal

pub returns : goal.returns
returns c = exported _ _ _ _ c.from.ensures c.plan.ensures

-- `secondcoop_load_house` meets its contract: nothing is written where the sheet is rejected.
use Rattle.ffi_planner.proofs.Handing.{rejected_to}
use Rattle.ffi_planner.proofs.secondcoop_load_house.Goals as goal

pub returns : goal.returns
returns c = rejected_to _ _ _ c.load.ensures _ c.in_default.is

-- `secondcoop_explain` meets its contract: the explanation's own.
use Rattle.ffi_planner.proofs.Handing.{exported_reason}
use Rattle.ffi_planner.proofs.explanations.secondcoop_explain.Goals as goal

pub returns : goal.returns
returns c = exported_reason _ _ _ _ _ _ c.from.ensures c.explain-explanation.ensures

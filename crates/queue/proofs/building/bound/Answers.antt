-- `bound` meets its contract.
use native.Mathlib.Omega.{arith}
use Rattle.queue.proofs.OneTable.{narrow}
use Rattle.queue.proofs.building.bound.Goals as goal

pub returns : goal.returns
returns c = narrow _ _ _ (λ s. omega (arith, c.type_inv.anchor s)) (λ s. omega (arith, c.type_inv.guides s))

-- `clear` meets its contract.
use native.Mathlib.Omega.{arith}
use Rattle.std.proofs.Common.{rules}
use Rattle.heap.proofs.Laws.{cleared_fill}
use Rattle.heap.proofs.clear.Goals as goal

pub returns : goal.returns
returns c =
    cleared_fill _ _ _ _ (c.fill.ensures.after (λ y e. e)) (search rules) (omega (arith, c.requires))

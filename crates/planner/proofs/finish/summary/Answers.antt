-- `summary` meets its contract: the bound fits.
use native.Mathlib.Omega.{arith}
use Rattle.planner.proofs.Finishing.{bound_fits}
use Rattle.planner.proofs.finish.summary.Goals as goal

pub overflow_mul-bound : goal.overflow_mul-bound
overflow_mul-bound c =
    let h = c.requires in omega (arith, bound_fits _ _ _ _ _ c.factors-f.ensures h.0 h.1)

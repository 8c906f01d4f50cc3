-- Whether the search goes on: for the contracts of functions inside the planner call, nothing that a reader must believe.
use Rattle.std.specs.Prelude.{Bool, true, false}
use Rattle.search.specs.declared.Step.{Step}
use Rattle.search.specs.declared.Step.TheVariants.{Stuck, Finished, Due}

abbrev pub is_due : Step → Bool
is_due Stuck = false
is_due Finished = false
is_due (Due m a) = true

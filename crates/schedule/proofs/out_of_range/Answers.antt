-- `out_of_range` meets its contract: what `any` tests of each number is what the definition does.
use mathlib.Core.Path.{refl, ◌∙◌}
use mathlib.Core.Bool.{◌||◌}
use Rattle.std.proofs.Common.{ltb, rules, tests}
use Rattle.std.proofs.lemmas.Iterator.{YieldsList-from_slice}
use Rattle.std.proofs.lemmas.Iterator.Search.{any_from_yields_List}
use Rattle.std.proofs.lemmas.List.Recursion.{same_from_clauses}
use Rattle.std.specs.List.{list_any}
use Rattle.search.specs.Call.{out_of_range}
use Rattle.schedule.proofs.out_of_range.Goals as goal

pub returns : goal.returns
unfolding out_of_range
returns c =
    any_from_yields_List (λ w. ltb w 100 || ltb 10000 w) _ _ _ c.any.ensures.ran (YieldsList-from_slice c.args.schedule.now cc) (λ x b q k. search (rules, tests))
    ∙ same_from_clauses (list_any (λ w. ltb w 100 || ltb 10000 w)) out_of_range (λ w b. ltb w 100 || ltb 10000 w || b) refl (λ _ _. refl) (λ _ _. refl) c.args.schedule.now

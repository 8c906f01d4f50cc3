-- `list` meets its contract: nothing is listed, or both lists are laid.
use mathlib.Core.Path.{sym, ◌∙◌}
use Rattle.explanation.proofs.Lists.{nothing_listed, both_listed}
use Rattle.explanation.proofs.list.Goals as goal

pub returns-then-not-is_no_route-clause-lists : goal.returns-then-not-is_no_route-clause-lists
returns-then-not-is_no_route-clause-lists c =
    nothing_listed _ _ _ _ _ _ (sym c.is_no_route.ensures ∙ c.if-not-is_no_route.true)

pub returns-clause-lists : goal.returns-clause-lists
returns-clause-lists c =
    let h = sym c.is_no_route.ensures ∙ c.if-not-is_no_route.false in
    both_listed _ _ _ _ _ _ h (c.requires h) _ _ _ _ c.list_vertices-reached.ensures c.list_edges-leaving.ensures

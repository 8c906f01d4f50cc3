-- `keep` meets its contract.
use mathlib.Core.Path.{sym, ap, ◌∙◌}
use Rattle.search.specs.Walk.{RouteCost}
use Rattle.search.specs.Rounds.{improves}
use Rattle.route.specs.Trace.{traced_in}
use Rattle.route.proofs.Traces.{figures_length, figures_cost}
use Rattle.route.proofs.Ended.{keeps_new, keeps_old, broken_not}
use Rattle.route.proofs.keep.Goals as goal

pub lay-requires : goal.lay-requires
lay-requires c =
    (c.requires.1, figures_length c.args.graph.size c.args.graph.words.now c.args.start c.args.goal _ c.from_goal-t.ensures)

pub returns-in-Some : goal.returns-in-Some
returns-in-Some c =
    let s = c.args in
    let e = figures_cost s.graph.size s.graph.words.now s.start s.goal _ c.from_goal-t.ensures ∙ c.in-Some.is in
    let f = keeps_new s.graph.size.vertices _ (traced_in s.graph.size s.graph.words.now s.start s.goal) s.p s.route.now _ e (sym c.improves.ensures ∙ c.if-improves.true) _ c.lay.ensures in
    record { value = f.0; route_after = f.1 }

pub returns-in_default : goal.returns-in_default
returns-in_default c =
    let s = c.args in
    let e = figures_cost s.graph.size s.graph.words.now s.start s.goal _ c.from_goal-t.ensures ∙ c.in-Some.is in
    let f = keeps_old s.graph.size.vertices _ (traced_in s.graph.size s.graph.words.now s.start s.goal) s.p s.route.now
    (ap (λ (x : RouteCost). improves x s.p) e ∙ sym c.improves.ensures ∙ c.if-improves.false) in
    record { value = f.0; route_after = f.1 }

pub returns-in_default-2 : goal.returns-in_default-2
returns-in_default-2 c =
    let s = c.args in
    let e = figures_cost s.graph.size s.graph.words.now s.start s.goal _ c.from_goal-t.ensures ∙ c.in_default.is in
    let f = keeps_old s.graph.size.vertices _ (traced_in s.graph.size s.graph.words.now s.start s.goal) s.p s.route.now (broken_not _ s.p e) in
    record { value = f.0; route_after = f.1 }

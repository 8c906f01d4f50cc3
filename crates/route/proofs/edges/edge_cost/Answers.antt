-- `edge_cost` meets its contract.
use mathlib.Core.Path.{sym, ap, ◌∙◌}
use native.Mathlib.Omega.{arith}
use Rattle.std.specs.Prelude.{Some}
use Rattle.route.specs.Costs.{max_word}
use Rattle.route.proofs.Found.{looking_none, looking_more, looking_found, looking_all, cost_outside, none_most, cost_most}
use Rattle.route.proofs.edges.edge_cost.Goals as goal

pub returns-then-graph-a : goal.returns-then-graph-a
returns-then-graph-a c =
    let s = c.args in
    (sym (cost_outside s.graph.size s.graph.words.now s.a s.b c.if-graph-a.true), none_most max_word)

pub loop-j-init : goal.loop-j-init
loop-j-init c = looking_none _ _ _ _ _ _ c.if-graph-a.false c.first_edge-j.ensures.value c.first_edge-j-end.ensures.value

pub returns-then-edge-b : goal.returns-then-edge-b
returns-then-edge-b c = (
  ap Some c.from.ensures ∙ looking_found _ _ _ _ _ c.loop-j.j c.loop-j.invariant c.loop-j-test.true _ c.edge-edge.ensures.value c.if-edge-b.true,
  cost_most _ _ (omega arith),
)

pub loop-j-preserved : goal.loop-j-preserved
loop-j-preserved c = looking_more _ _ _ _ _ c.loop-j.j c.loop-j.invariant c.loop-j-test.true _ c.edge-edge.ensures.value c.if-edge-b.false

pub returns : goal.returns
returns c = (looking_all _ _ _ _ _ c.loop-j.j c.loop-j.invariant c.loop-j-test.false, none_most max_word)

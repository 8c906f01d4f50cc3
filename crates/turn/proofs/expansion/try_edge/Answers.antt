-- `try_edge` meets its contract.
use mathlib.Core.Path.{sym, ◌∙◌}
use Rattle.turn.proofs.Expanding.{edge_barred, edge_tried}
use Rattle.turn.proofs.expansion.try_edge.Goals as goal

pub returns-then-not-bars : goal.returns-then-not-bars
returns-then-not-bars c =
    let a = c.args in
    let e = rw (c.graph.ensures.size, c.graph.ensures.words) at c.edge-e.ensures.value in
    let t = sym (rw e at c.bars.ensures) ∙ c.if-not-bars.true in
    edge_tried a.barred a.s a.g a.j a.space.now _ t (rw e at c.relax.ensures)

pub returns-else-not-bars : goal.returns-else-not-bars
returns-else-not-bars c =
    let a = c.args in
    let e = rw (c.graph.ensures.size, c.graph.ensures.words) at c.edge-e.ensures.value in
    let t = sym (rw e at c.bars.ensures) ∙ c.if-not-bars.false in
    edge_barred a.barred a.s a.g a.j a.space.now t

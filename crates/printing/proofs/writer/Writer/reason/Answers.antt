-- `reason` meets its contract: that there is no route, what can be reached, and the barred edges that leave it.
use lib.ListN.{take}
use mathlib.Core.List.{◌++◌}
use Rattle.text.specs.Text.{ascii, each, no_route_line, reach_line}
use Rattle.text.proofs.Laid.{first_counted, then_counted}
use Rattle.job.specs.Explained.{edge_line}
use Rattle.workspace.specs.Space.{graph_edges}
use Rattle.printing.proofs.Writing.{then_wrote}
use Rattle.printing.proofs.writer.Writer.reason.Goals as goal

pub turns_line-requires : goal.turns_line-requires
unfolding ascii no_route_line
turns_line-requires g c =
    let a = c.args in
    first_counted a.self.now.at (no_route_line a.turns)
    (reach_line (take a.explanation.vertices a.vertices.now) ++ each (edge_line (graph_edges a.graph)) 0 (take a.explanation.edges a.edges.now))
    c.requires.2

pub vertices_line-requires : goal.vertices_line-requires
unfolding ascii no_route_line reach_line
vertices_line-requires g c =
    let a = c.args in
    rw c.first.ensures
    (first_counted c.turns_line.new.self.at (reach_line (take a.explanation.vertices a.vertices.now))
    (each (edge_line (graph_edges a.graph)) 0 (take a.explanation.edges a.edges.now))
    (then_counted _ c.turns_line.ensures.put c.requires.2))

pub edge_lines-requires : goal.edge_lines-requires
unfolding ascii no_route_line reach_line
edge_lines-requires g c =
    rw c.first-2.ensures (
      c.requires.0,
      c.requires.1,
      then_counted _ (rw c.first.ensures at c.vertices_line.ensures.put) (then_counted _ c.turns_line.ensures.put c.requires.2),
    )

pub returns : goal.returns
unfolding ascii no_route_line reach_line
returns g c =
    then_wrote c.turns_line.ensures
    (then_wrote (rw c.first.ensures at c.vertices_line.ensures) (rw c.first-2.ensures at c.edge_lines.ensures))

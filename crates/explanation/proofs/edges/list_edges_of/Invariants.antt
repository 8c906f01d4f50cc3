-- `list_edges_of` meets its contract. The loop's invariant: the edges of the tail before edge j are listed.
use Rattle.search.specs.Reason.{leaves}
use Rattle.workspace.specs.Space.{space_vertices}
use Rattle.explanation.proofs.Listing.{RunListed}
use Rattle.explanation.proofs.edges.list_edges_of.Given as goal

abbrev pub invariant-loop-j : goal.invariant-loop-j
invariant-loop-j l = RunListed l.space.size l.space.work.now (leaves l.barred (space_vertices l.space)) l.t l.first l.initial.list l.list l.j

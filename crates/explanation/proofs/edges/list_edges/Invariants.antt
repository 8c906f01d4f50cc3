-- `list_edges` meets its contract. The loop's invariant: the edges of the tails before t are listed.
use Rattle.search.specs.Reason.{leaves}
use Rattle.workspace.specs.Space.{space_vertices}
use Rattle.explanation.proofs.Listing.{TailsListed}
use Rattle.explanation.proofs.edges.list_edges.Given as goal

abbrev pub invariant-loop-t : goal.invariant-loop-t
invariant-loop-t l = TailsListed l.space.size l.space.work.now (leaves l.barred (space_vertices l.space)) l.initial.list l.list l.t

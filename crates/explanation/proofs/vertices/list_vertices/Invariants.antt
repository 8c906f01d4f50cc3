-- `list_vertices` meets its contract. The loop's invariant: the vertices before s are listed.
use Rattle.workspace.specs.Space.{space_vertices}
use Rattle.explanation.proofs.Listing.{ListedTo}
use Rattle.explanation.proofs.vertices.list_vertices.Given as goal

abbrev pub invariant-loop-s : goal.invariant-loop-s
invariant-loop-s l = ListedTo (space_vertices l.space) l.initial.list l.list l.s

-- `list_vertices` meets its contract. The loop's invariant: the vertices before s are listed.
use Rattle.std.proofs.Common.{rules, arith}
use Rattle.workspace.proofs.Spaces.{length_vertices_in}
use Rattle.explanation.proofs.Listing.{listed_none, listed_few, listed_room, vertex_listed, vertex_passed, listed_all, handed_back}
use Rattle.explanation.proofs.vertices.list_vertices.Goals as goal
use Rattle.explanation.proofs.vertices.list_vertices.Goals.{then-is_reached, else-is_reached}

pub loop-s-init : goal.loop-s-init
loop-s-init c = listed_none _ _

pub push-requires : goal.push-requires
push-requires c =
    let n = length_vertices_in c.args.space.now in (
      listed_room _ _ _ _ c.loop-s.invariant (omega (arith, n, c.requires)) (omega (arith, n, c.loop-s-test.true)),
      omega (arith, listed_few _ _ _ _ c.loop-s.invariant, c.loop-s-test.true),
    )

pub loop-s-preserved : goal.loop-s-preserved
loop-s-preserved c =
    let n = length_vertices_in c.args.space.now in
    elim c.if-is_reached.branch [
      | then-is_reached w ↦ rw w.list-is (vertex_listed _ _ _ _ c.loop-s.invariant _ (omega (arith, n)) c.is_reached.ensures w.if-is_reached.true _ w.push.ensures)
      | else-is_reached w ↦ rw w.list-is (vertex_passed _ _ _ _ c.loop-s.invariant _ (omega (arith, n)) c.is_reached.ensures w.if-is_reached.false)
    ]

pub returns : goal.returns
returns c =
    handed_back _ (listed_all _ _ _ _ c.loop-s.invariant (omega (arith, length_vertices_in c.args.space.now))) (search (rules, c.loop-s.invariant.adds.lent))

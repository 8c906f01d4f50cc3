-- `list_edges_of` meets its contract. The loop's invariant: the edges of the tail before edge j are listed.
use native.Mathlib.Omega.{arith}
use native.Mathlib.Numerals.{add-one}
use Rattle.explanation.proofs.Listing.{run_none, run_few, run_room, edge_listed, edge_passed, run_all}
use Rattle.explanation.proofs.edges.list_edges_of.Goals as goal
use Rattle.explanation.proofs.edges.list_edges_of.Goals.{then-leaves, else-leaves}

pub loop-j-init : goal.loop-j-init
loop-j-init c = run_none _ _ _ _ _ _

pub push-requires : goal.push-requires
push-requires c =
    let first = rw c.graph.ensures.words at c.first_edge-first.ensures.value in
    let end = rw (c.graph-2.ensures.words, add-one) at c.first_edge-end.ensures.value in
    let ends = c.args.space.now.ready.graph.ends c.args.t c.requires.0 in
    let few = run_few _ _ _ _ _ _ _ _ c.loop-j.invariant (omega (arith, c.requires.1, first)) in (
      run_room _ _ _ _ _ _ _ _ c.loop-j.invariant (omega (arith, c.requires.1, first)) (omega (arith, c.requires.2, ends, end, c.loop-j-test.true)),
      omega (arith, few, c.loop-j-test.true),
    )

pub loop-j-preserved : goal.loop-j-preserved
loop-j-preserved c =
    elim c.if-leaves.branch [
      | then-leaves w ↦ rw w.list-is (edge_listed _ _ _ _ _ _ _ _ c.loop-j.invariant _ c.leaves.ensures w.if-leaves.true _ w.push.ensures)
      | else-leaves w ↦ rw w.list-is (edge_passed _ _ _ _ _ _ _ _ c.loop-j.invariant _ c.leaves.ensures w.if-leaves.false)
    ]

pub returns : goal.returns
returns c =
    let first = rw c.graph.ensures.words at c.first_edge-first.ensures.value in
    let end = rw c.graph-2.ensures.words at c.first_edge-end.ensures.value in
    let rise = c.args.space.now.ready.graph.rise c.args.t c.requires.0 in
    run_all _ _ _ _ _ _ _ _ c.loop-j.invariant _ c.loop-j-test.false (c.loop-j.auto.j-end (omega (arith, rise, rw add-one at end, first))) first end

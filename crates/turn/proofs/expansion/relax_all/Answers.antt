-- `relax_all` meets its contract: the edges of s before edge j, and all of them.
use Prim.Native.Nat.{◌≤◌}
use native.Mathlib.Omega.{arith}
use Rattle.turn.proofs.Expanding.{tried_none, tried_next, tried_all}
use Rattle.turn.proofs.expansion.relax_all.Goals as goal

pub loop-j-init : goal.loop-j-init
loop-j-init c = tried_none _ _ _ _ _ c.args.space.now

pub try_edge-requires : goal.try_edge-requires
try_edge-requires c =
    let l = c.loop-j in
    let m : c.first_edge-end.result ≤ c.args.space.now.size.edges
    = rw c.graph-graph.ensures.size at c.first_edge-end.ensures.within (omega (arith, c.requires)) in
    rw l.invariant.kept.lent.size_is (omega (arith, m, c.loop-j-test.true))

pub loop-j-preserved : goal.loop-j-preserved
loop-j-preserved c =
    let l = c.loop-j in
    let m : c.first_edge-end.result ≤ c.args.space.now.size.edges
    = rw c.graph-graph.ensures.size at c.first_edge-end.ensures.within (omega (arith, c.requires)) in
    tried_next _ _ _ _ _ c.args.space.now l.space l.j l.invariant _ c.loop-j-test.true (omega (arith, m, c.loop-j-test.true)) c.try_edge.ensures

pub returns : goal.returns
returns c =
    let l = c.loop-j in
    tried_all _ _ _ _ _ c.args.space.now l.space l.j l.invariant c.requires c.loop-j-test.false
    (rw c.graph-graph.ensures.words at c.first_edge-first.ensures.value)
    (rw c.graph-graph.ensures.words at c.first_edge-end.ensures.value)

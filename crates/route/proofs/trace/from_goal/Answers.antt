-- `from_goal` meets its contract.
use native.Mathlib.Omega.{arith}
use Rattle.route.proofs.Traces.{tracing_none, tracing_more, tracing_start, tracing_full, back_length}
use Rattle.route.proofs.trace.from_goal.Goals as goal

pub loop-t-init : goal.loop-t-init
loop-t-init c = tracing_none c.args.graph.size c.args.graph.words.now c.args.start c.args.goal c.requires

pub loop-t-smaller : goal.loop-t-smaller
loop-t-smaller c =
    omega (arith, back_length _ _ _ _ c.back-t.ensures.0, c.loop-t-test.true)

pub loop-t-preserved : goal.loop-t-preserved
loop-t-preserved c =
    let s = c.args in
    let l = c.loop-t in
    tracing_more s.graph.size s.graph.words.now s.start s.goal l.t l.invariant _ c.loop-t-test.true c.if-t-start.true c.back-t.ensures.0 c.back-t.ensures.1

pub returns-else-t-start : goal.returns-else-t-start
returns-else-t-start c =
    let s = c.args in
    let l = c.loop-t in
    tracing_start s.graph.size s.graph.words.now s.start s.goal l.t l.invariant c.if-t-start.false

pub returns-after-loop-t : goal.returns-after-loop-t
returns-after-loop-t c =
    let s = c.args in
    let l = c.loop-t in
    tracing_full s.graph.size s.graph.words.now s.start s.goal l.t l.invariant c.loop-t-test.false

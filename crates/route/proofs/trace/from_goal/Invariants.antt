-- `from_goal` meets its contract.
use Prim.Native.Nat.{◌-◌}
use Rattle.route.proofs.Traces.{Tracing}
use Rattle.route.proofs.trace.from_goal.Given as goal

abbrev pub invariant-loop-t : goal.invariant-loop-t
invariant-loop-t l = Tracing l.graph.size l.graph.words.now l.start l.goal l.t

abbrev pub decreases-loop-t : goal.decreases-loop-t
decreases-loop-t l = l.graph.size.vertices - l.t.length

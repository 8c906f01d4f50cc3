-- `Plan::measure_edges` meets its contract. The loop's invariant: measuring the rest from the cursor gives what measuring all gives.
use Rattle.plan_writer.specs.Listed.{listed}
use Rattle.plan_writer.proofs.Measuring.{Measuring}
use Rattle.plan_writer.proofs.plan.Plan.measure_edges.Given as goal

abbrev pub invariant-loop-i : goal.invariant-loop-i
invariant-loop-i l = Measuring l.self.vertices (listed l.self) l.start l.cursor l.i-counter

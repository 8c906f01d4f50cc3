-- `Plan::measure_edges` meets its contract. The loop's invariant: measuring the rest from the cursor gives what measuring all gives.
use mathlib.Core.Path.{sym, ◌∙◌}
use Rattle.plan_writer.proofs.Measuring.{measuring_next, ok_before}
use Rattle.plan_writer.proofs.plan.Plan.measure_edges.Goals as goal

pub loop-i-preserved : goal.loop-i-preserved
loop-i-preserved c =
    measuring_next c.loop-i.invariant c.edge.ensures c.args.self.now.vertices_few
    (sym c.measure_edge.ensures ∙ ok_before _ _ _ c.in_ok-cursor.ensures.cases c.in_ok-cursor.ensures.variant)

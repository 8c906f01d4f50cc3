-- `Plan::lay_edges` meets its contract. The loop's invariant: laying the rest from here gives what laying all gives.
use Rattle.plan_writer.proofs.Laying.{laying_next}
use Rattle.plan_writer.proofs.plan.Plan.lay_edges.Goals as goal

pub loop-i-preserved : goal.loop-i-preserved
loop-i-preserved c =
    let e = c.lay_edge-at.ensures in
    laying_next c.loop-i.invariant c.edge-edge.ensures e.value e.out_after

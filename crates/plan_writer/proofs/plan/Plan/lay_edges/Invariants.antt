-- `Plan::lay_edges` meets its contract. The loop's invariant: laying the rest from here gives what laying all gives.
use Rattle.plan_writer.specs.Listed.{listed}
use Rattle.plan_writer.proofs.Laying.{Laying}
use Rattle.plan_writer.proofs.plan.Plan.lay_edges.Given as goal

abbrev pub invariant-loop-i : goal.invariant-loop-i
invariant-loop-i l = Laying (listed l.self) l.initial.out l.start l.out l.at l.tail l.i

-- `Plan::edge` meets its contract: the lists hold the edge number i at i.
use native.Mathlib.Omega.{arith}
use native.Mathlib.Numerals.{add-one}
use Rattle.plan_writer.proofs.Measuring.{edge_next}
use Rattle.plan_writer.proofs.Writer.{edges_count}
use Rattle.plan_writer.proofs.plan.Plan.edge.Goals as goal

pub returns : goal.returns
returns c =
    let s = c.args.self.now in
    rw (add-one c.args.i) (edge_next _ _ _ _ _ s.equal (omega (arith, edges_count _ _ _ _ s.equal)))

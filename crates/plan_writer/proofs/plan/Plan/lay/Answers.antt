-- `Plan::lay` meets its contract: V and M are laid at the front, since there is room.
use native.Mathlib.Omega.{arith}
use Rattle.plan_writer.proofs.Laying.{laid_length}
use Rattle.plan_writer.proofs.Writer.{bytes_length, small}
use Rattle.plan_writer.proofs.plan.Plan.lay.Goals as goal

pub lay_plan_number-count_at-requires : goal.lay_plan_number-count_at-requires
lay_plan_number-count_at-requires c = (small _ (omega (arith, c.args.self.now.vertices_few)), grind (arith, bytes_length))

pub lay_plan_number-edges_at-requires : goal.lay_plan_number-edges_at-requires
lay_plan_number-edges_at-requires c = (small _ c.len-count.ensures.few, grind (arith, bytes_length, laid_length))

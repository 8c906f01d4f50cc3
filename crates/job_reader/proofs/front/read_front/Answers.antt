-- `read_front` meets its contract: the plan's place, then what follows.
use native.Mathlib.Omega.{arith}
use Rattle.std.specs.Prelude.{◌≡◌, Ok}
use Rattle.std.proofs.Common.{rules}
use Rattle.leb128.specs.Number.{NumberRead, read, job_groups}
use Rattle.leb128.proofs.Laws.{value_within}
use Rattle.job_reader.proofs.front.read_front.Goals as goal

pub overflow_add-plan_end : goal.overflow_add-plan_end
unfolding job_groups
overflow_add-plan_end c =
    let e : ◌≡◌ {A = NumberRead} (read job_groups c.args.job.now 0) (Ok (c.in_ok-size.size, c.in_ok-size.plan_at)) = search rules in
    record { fits = omega (arith, (value_within _ _ _ _ _ e).few) }

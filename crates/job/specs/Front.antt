-- A bench job's bytes up to the guide count: plan length, the plan, start, goal, barred number, allowance, rounds and factors, guide count.
use Rattle.std.specs.Prelude.{ℕ, ◌+◌, ◌*◌, cond, List, length, ltb, Ok, Err, Option, Some, None}
use Rattle.leb128.specs.Number.{read, job_groups, NumberRead}
use Rattle.job.specs.Numbers.{NumbersRead, end_of}
use Rattle.job.specs.declared.Ends.{Ends}
use Rattle.job.specs.declared.Front.{Front}

-- ---- limits

abbrev pub max_job_rounds : ℕ
max_job_rounds = 16

abbrev pub max_job_guides : ℕ
max_job_guides = 8

-- what stands before the tables; or none: bytes missing, a number of bad form, over 16 rounds or 8 guides
abbrev pub FrontRead : Type 0
FrontRead = Option Front

-- what follows a number
unfoldable pub following : NumberRead → (ℕ → ℕ → FrontRead) → FrontRead
following (Ok (x, next)) rest = rest x next
following (Err e) rest = None

-- what follows several
unfoldable pub past : NumbersRead → (ℕ → FrontRead) → FrontRead
past (Some next) rest = rest next
past None rest = None

-- rounds and factors, guide count
unfoldable pub rounds : List ℕ → ℕ → ℕ → Ends → ℕ → FrontRead
rounds s plan_at plan_end ends at =
    following (read job_groups s at) (λ round_count factors_at.
    cond (ltb max_job_rounds round_count) None
    (past (end_of (2 * round_count) s factors_at) (λ guides_at.
    following (read job_groups s guides_at) (λ guide_count tables_at.
    cond (ltb max_job_guides guide_count) None
    (Some (record {
      plan_at = plan_at;
      plan_end = plan_end;
      ends = ends;
      round_count = round_count;
      factors_at = factors_at;
      guide_count = guide_count;
      tables_at = tables_at;
    }))))))

-- start, goal, barred number, allowance
unfoldable pub ends : List ℕ → ℕ → ℕ → FrontRead
ends s plan_at plan_end =
    following (read job_groups s plan_end) (λ start goal_at.
    following (read job_groups s goal_at) (λ goal barred_at.
    following (read job_groups s barred_at) (λ barred budget_at.
    following (read job_groups s budget_at) (λ budget at.
    rounds s plan_at plan_end (record { start = start; goal = goal; barred = barred; budget = budget }) at))))

-- plan length, the plan
unfoldable pub front : List ℕ → FrontRead
front s =
    following (read job_groups s 0) (λ size plan_at.
    cond (ltb (length s) (plan_at + size)) None (ends s plan_at (plan_at + size)))

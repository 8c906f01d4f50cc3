-- A bench job's bytes, whole: up to the guide count (`front`), the plan in them, then anchor table and guide sheets.
use Rattle.graph.specs.declared.refusal.Cause.TheVariants as cause
use Rattle.std.specs.Prelude.{ℕ, ◌+◌, ◌-◌, ◌*◌, cond, ◌||◌, List, length, take, drop, ltb, Result, Ok, Err, Some, None}
use Rattle.graph.specs.declared.refusal.Refusal.{Refusal}
use Rattle.graph.specs.Refusal.{PlanRead, refusal_of}
use Rattle.job.specs.Front.{FrontRead, front}
use Rattle.job.specs.Numbers.{NumbersRead, end_of}
use Rattle.graph.specs.Plan.{decode, sizes}
use Rattle.job.specs.declared.Front.{Front}

-- ---- limits

abbrev pub max_job_bytes : ℕ
max_job_bytes = 32768

-- the most places
abbrev pub max_job_vertices : ℕ
max_job_vertices = 256

-- the most lanes
abbrev pub max_job_edges : ℕ
max_job_edges = 2048

-- what stands before the tables of a job that may be asked, with V of its plan; or the refusal
abbrev pub JobRead : Type 0
JobRead = Result (Front × ℕ) Refusal

-- ---- the plan next: 1 to 7 and 15, with positions inside it

unfoldable pub plan_of : List ℕ → Front → List ℕ
plan_of s f = take (f.plan_end - f.plan_at) (drop f.plan_at s)

-- ---- the tables: V numbers each

-- the numbers of the anchor table and the guide sheets
unfoldable pub table_count : Front → ℕ → ℕ
table_count f v = (1 + f.guide_count) * v

-- short or of bad form; or bytes are left over
unfoldable pub after_tables : List ℕ → Front → ℕ → NumbersRead → JobRead
after_tables s f v None = Err (refusal_of cause.Job 0)
after_tables s f v (Some end) = cond (ltb end (length s)) (Err (refusal_of cause.Job 0)) (Ok (f, v))

-- V > 256, M > 2,048, or the tables
unfoldable pub after_sizes : List ℕ → Front → ℕ → ℕ → JobRead
after_sizes s f v m =
    cond (ltb max_job_vertices v || ltb max_job_edges m) (Err (refusal_of cause.Job 0)) (after_tables s f v (end_of (table_count f v) s f.tables_at))

unfoldable pub after_plan : List ℕ → Front → PlanRead → JobRead
after_plan s f (Ok z) = after_sizes s f z.vertices z.edges
after_plan s f (Err e) = Err e

-- ---- the whole job

unfoldable pub after_front : List ℕ → FrontRead → JobRead
after_front s None = Err (refusal_of cause.Job 0)
after_front s (Some f) = after_plan s f (sizes (decode (plan_of s f)))

-- first 14 for over 32,768 bytes
unfoldable pub job_read : List ℕ → JobRead
job_read s = cond (ltb max_job_bytes (length s)) (Err (refusal_of cause.Job 0)) (after_front s (front s))

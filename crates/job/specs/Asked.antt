-- The planner call that an accepted bench job asks, over memory of the bench program.
use Rattle.std.specs.Prelude.{ℕ, ◌+◌, ◌*◌, List, take, drop, replicate}
use Rattle.search.specs.Job.{standard}
use Rattle.search.specs.Call.{Memory, Call}
use Rattle.job.specs.declared.Front.{Front}
use Rattle.job.specs.Numbers.{values}
use Rattle.job.specs.Reading.{max_job_vertices, max_job_edges, plan_of, table_count}

-- ---- what an accepted job holds, besides its plan

-- W1, W2, W1, W2, ..
unfoldable pub factors_of : List ℕ → Front → List ℕ
factors_of s f = values (2 * f.round_count) s f.factors_at

-- the tables one after another, v numbers each
unfoldable pub tables_of : List ℕ → Front → ℕ → List ℕ
tables_of s f v = values (table_count f v) s f.tables_at

-- the anchor table first
unfoldable pub anchor_of : List ℕ → Front → ℕ → List ℕ
anchor_of s f v = take v (tables_of s f v)

-- then the guide sheets
unfoldable pub sheets_of : List ℕ → Front → ℕ → List ℕ
sheets_of s f v = drop v (tables_of s f v)

-- ---- memory

-- the least for 256 vertices and 2,048 edges, and a log of 8,192 words
abbrev pub route_size : ℕ
route_size = max_job_vertices

abbrev pub log_size : ℕ
log_size = 8192

abbrev pub work_size : ℕ
work_size = 3 * max_job_vertices + 1 + 3 * max_job_edges

abbrev pub wide_size : ℕ
wide_size = 2 * max_job_vertices

unfoldable pub zeros : Memory
zeros = record { route = replicate route_size 0; log = replicate log_size 0; work = replicate work_size 0; wide = replicate wide_size 0 }

-- ---- the call

-- with this plan, these tables and this schedule; a bench job has our six rounds for its default schedule
unfoldable pub call_with : List ℕ → Front → List ℕ → List ℕ → List ℕ → Call
call_with plan f anchor sheets schedule =
    record {
      bytes = plan;
      start = f.ends.start;
      goal = f.ends.goal;
      barred = f.ends.barred;
      anchor = anchor;
      sheets = sheets;
      count = f.guide_count;
      schedule = schedule;
      default_schedule = standard;
      budget = f.ends.budget;
      memory = zeros;
    }

unfoldable pub call_asked : List ℕ → Front → ℕ → Call
call_asked s f v = call_with (plan_of s f) f (anchor_of s f v) (sheets_of s f v) (factors_of s f)

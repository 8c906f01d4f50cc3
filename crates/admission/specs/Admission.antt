-- The verdict on a planner call, admitted with what its plan's header says or refused: for the contract of `decide`, nothing that a reader must believe.
use Rattle.std.specs.Prelude.{ℕ, ◌≡◌, List, length, Ok, Err}
use Rattle.graph.specs.Refusal.{Header}
use Rattle.graph.specs.Plan.{header}
use Rattle.search.specs.Call.{Call, or_default, schedule_of, fault_of, plan_edges, job_of}
use Rattle.admission.specs.declared.Call.{Call as Asked}
use Rattle.admission.specs.declared.Lengths.{Lengths}
use Rattle.admission.specs.Verdict.{Verdict, verdict}

-- the offset of a plan's first edge
unfoldable pub first_edge_at : Header → ℕ
first_edge_at (Ok (z, at)) = at
first_edge_at (Err e) = 0

unfoldable pub verdict_of : Call → Verdict
verdict_of c = verdict (job_of c).size (length (plan_edges c)) (first_edge_at (header c.bytes)) (fault_of c)

-- the schedule that a call takes
abbrev pub taken : Asked → List ℕ
taken q = or_default q.default_schedule.now q.schedule.now

-- c is a call with these arguments that takes the same schedule, and whose lent memory has these lengths
pub record Asks (c : Call) (q : Asked) (lengths : Lengths) : Type 0 where
  pub bytes_is : c.bytes ≡ q.bytes.now
  pub start_is : c.start ≡ q.start
  pub goal_is : c.goal ≡ q.goal
  pub barred_is : c.barred ≡ q.barred
  pub anchor_is : c.anchor ≡ q.anchor.now
  pub sheets_is : c.sheets ≡ q.guides.now
  pub count_is : c.count ≡ q.guide_count
  pub schedule_is : schedule_of c ≡ taken q
  pub route_is : length c.memory.route ≡ lengths.route
  pub work_is : length c.memory.work ≡ lengths.work
  pub wide_is : length c.memory.wide ≡ lengths.wide

-- r is the verdict on every such call, whatever its budget and what memory holds
pub record Decided (q : Asked) (lengths : Lengths) (r : Verdict) : Type 0 where
  pub decided : (c : Call) → Asks c q lengths → r ≡ verdict_of c

-- What a job is refused for after 14: the faults of its plan, then those of its call. Proved in proofs/Refusals.antt.
use Rattle.graph.specs.declared.refusal.Cause.{Cause}
use Rattle.graph.specs.declared.refusal.Cause.TheVariants as cause
use Rattle.std.specs.Prelude.{ℕ, ◌≤◌, ◌≡◌, List, length, Ok, Err, Some}
use Rattle.graph.specs.Refusal.{refusal_of}
use Rattle.graph.specs.Plan.{decode, sizes}
use Rattle.graph.specs.Lists.{fault}
use Rattle.search.specs.Call.{fault_of}
use Rattle.job.specs.declared.Front.{Front}
use Rattle.job.specs.Front.{front}
use Rattle.job.specs.Reading.{max_job_bytes, plan_of, job_read}
use Rattle.job.specs.Asked.{call_asked}

-- 8, 10, 12 and 13
pub data Own : Cause → Type 0 where
  ends : Own cause.Ends
  schedule : Own cause.Schedule
  goal : Own cause.Goal
  edge : Own cause.AnchorRule

-- 1 to 7 and 15 came before it, and 9 and 11 cannot occur
pub record OwnRefusals : Type 0 where
  pub own : (s : List ℕ) (f : Front) (v : ℕ) (n : Cause) (p : ℕ) → job_read s ≡ Ok (f, v) → fault_of (call_asked s f v) ≡ fault n p → Own n

-- where 14 does not come first, a fault of the plan is the job's refusal, its position inside the plan
pub record PlanRefusals : Type 0 where
  pub plan :
      (s : List ℕ) (f : Front) (n : Cause) (p : ℕ) → length s ≤ max_job_bytes → front s ≡ Some f → sizes (decode (plan_of s f)) ≡ Err (refusal_of n p) →
      job_read s ≡ Err (refusal_of n p)

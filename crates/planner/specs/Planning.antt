-- A call that is not refused, from lent memory to its answer: for the contracts of the planner's own functions, nothing that a reader must believe.
use Rattle.std.specs.Prelude.{ℕ, ◌≡◌, Ok}
use Rattle.graph.specs.Refusal.{size_of}
use Rattle.graph.specs.Plan.{header}
use Rattle.search.specs.declared.Answer.{Answer}
use Rattle.search.specs.Call.{Memory, Call}
use Rattle.search.specs.Outcome.{answer, memory_after}
use Rattle.admission.specs.declared.Call.{Call as Asked}
use Rattle.graph.specs.declared.Size.{Size}
use Rattle.planner.specs.Plan.{call_with}
use Rattle.planner.specs.Carried.{Fits}

-- what is asked: the call is not refused, and the plan's first edge stands at the offset `at`
pub record Admission (q : Asked) (z : Size) (at : ℕ) (m : Memory) : Type 0 where
  pub fits : Fits (call_with q m) z
  pub header_is : header q.bytes.now ≡ Ok (size_of z.vertices z.edges, at)

-- what is answered
pub record Answers (c : Call) (r : Answer) (m' : Memory) : Type 0 where
  pub answer_is : Ok r ≡ answer c
  pub memory_is : m' ≡ memory_after c

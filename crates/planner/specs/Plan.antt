-- What a planner call promises: the answer and lent memory are those that the definitions give, and the guarantee holds.
use Rattle.std.specs.Prelude.{ℕ, ◌≡◌, List, Result}
use Rattle.graph.specs.declared.refusal.Refusal.{Refusal}
use Rattle.search.specs.declared.Answer.{Answer}
use Rattle.search.specs.Call.{Memory, Call}
use Rattle.search.specs.Outcome.{answer, memory_after}
use Rattle.search.specs.Guarantee.{Guaranteed, AnyRule}
use Rattle.admission.specs.declared.Call.{Call as Asked}

-- lent memory of these words and numbers
abbrev pub memory_of : List ℕ → List ℕ → List ℕ → List ℕ → Memory
memory_of route log work wide = record { route = route; log = log; work = work; wide = wide }

-- the call with these arguments, where memory is lent as it is
abbrev pub call_of : List ℕ → ℕ → ℕ → ℕ → List ℕ → List ℕ → ℕ → List ℕ → List ℕ → ℕ → Memory → Call
call_of bytes start goal barred anchor guides count schedule default budget m =
    record {
      bytes = bytes;
      start = start;
      goal = goal;
      barred = barred;
      anchor = anchor;
      sheets = guides;
      count = count;
      schedule = schedule;
      default_schedule = default;
      budget = budget;
      memory = m;
    }

-- the call that the code's struct is, with the memory that is lent to it
abbrev pub call_with : Asked → Memory → Call
call_with q m =
    call_of q.bytes.now q.start q.goal q.barred q.anchor.now q.guides.now q.guide_count q.schedule.now q.default_schedule.now q.budget m

-- r is answered, and m is lent memory then
pub record Planned (c : Call) (r : Result Answer Refusal) (m : Memory) : Type 0 where
  pub answers : r ≡ answer c
  pub memory_is : m ≡ memory_after c
  -- demand 3, and the refusals of demand 1
  pub promise : Guaranteed c
  -- the guarantee, whichever rule says whose turn it is
  pub any_rule : AnyRule c

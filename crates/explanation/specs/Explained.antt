-- What an explanation promises: the answer, lent memory and both lists are those that the definitions give, and the lists say why there is no route.
use Rattle.std.specs.Prelude.{ℕ, ◌≡◌, List, take}
use Rattle.graph.specs.declared.refusal.Refusal.{Refusal}
use Rattle.search.specs.declared.Explanation.{Explanation}
use Rattle.search.specs.Call.{Memory, Call, plan_edges, job_of}
use Rattle.search.specs.Outcome.{no_route, figures}
use Rattle.search.specs.Guarantee.{Guaranteed, AnyRule}
use Rattle.search.specs.Reason.{Inquiry, call_memory, explanation, vertices_after, edges_after, Reason, Reasoned}

-- the explanation of this call, where the lists are lent as they are
abbrev pub inquiry_of : Call → List ℕ → List ℕ → Inquiry
inquiry_of c vertices edges = record { call = c; vertices = vertices; edges = edges }

-- r is answered; m is the call's memory then, and these are the lists
pub record Explained (x : Inquiry) (r : Explanation Refusal) (m : Memory) (vertices edges : List ℕ) : Type 0 where
  pub answers : r ≡ explanation x
  pub memory_is : m ≡ call_memory x
  pub vertices_are : vertices ≡ vertices_after x
  pub edges_are : edges ≡ edges_after x
  -- what is refused, and what the lists are
  pub reasoned : Reasoned x
  -- so the first words of both, as many as are answered, say why there is no route
  pub says :
      (figures r.answer).ending ≡ no_route →
      Reason (job_of x.call) x.call.barred (plan_edges x.call) (take r.vertices vertices) (take r.edges edges)
  -- the call's own promises
  pub promise : Guaranteed x.call
  pub any_rule : AnyRule x.call

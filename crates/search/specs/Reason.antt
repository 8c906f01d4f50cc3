-- The explanation of "no route" (E8): a planner call made once more, and where its answer is no route, the vertices (places) that the tug can reach
-- and the barred edges (lanes) that leave them.
use Rattle.graph.specs.declared.refusal.Cause.{Cause}
use Rattle.graph.specs.declared.refusal.Refusal.{Refusal}
use Rattle.graph.specs.declared.refusal.Cause.TheVariants as cause
use Rattle.std.specs.Prelude.{ℕ, suc, ◌≤◌, ◌<◌, ◌≡◌, ◌↔◌, Bool, cond, not, ◌&&◌, ◌||◌, length, get_or, ltb, Result, Ok, Err}
use mathlib.Core.List.{List, [], ◌∷◌, ◌++◌, Memᴰ}
use Rattle.graph.specs.declared.Edge.{Edge}
use Rattle.graph.specs.Plan.{Decoded, accepted, refused, decode}
use Rattle.graph.specs.Lists.{Fault, none, fault, over}
use Rattle.search.specs.declared.Vertex.{Vertex}
use Rattle.search.specs.declared.Answer.{Answer}
use Rattle.search.specs.declared.Answer.TheVariants.{Route, NoRoute, Unfinished}
use Rattle.graph.specs.Refusal.{refusal_of}
use Rattle.search.specs.declared.Explanation.{Explanation}
use Rattle.search.specs.Walk.{Walk}
use Rattle.search.specs.Permitted.{barred_by, Bit}
use Rattle.search.specs.Job.{Job, unreached, at}
use Rattle.search.specs.Call.{Memory, Call, row, first, call_rows, anchor_rows, fault_of, plan_edges, job_of}
use Rattle.search.specs.Admitted.{Admitted}
use Rattle.search.specs.Outcome.{no_route, figures, outcome, answer_in, answer, memory_in, memory_after}

-- what is asked: a planner call, and two lists lent besides, as they are
pub record Inquiry : Type 0 where
  pub call : Call
  -- for the vertices that can be reached
  pub vertices : List ℕ
  -- for the barred edges that leave them
  pub edges : List ℕ

-- ---- refusals: those of the call, and one more row

-- 11 also: fewer than V words for the vertices, or M for the edges
unfoldable pub lists_row : Inquiry → ℕ → ℕ → Fault
lists_row x v m = row (ltb (length x.vertices) v || ltb (length x.edges) m) cause.Memory 0

-- the same rows downwards, this one beside the call's own 11
unfoldable pub inquiry_fault_in : Inquiry → Decoded → Fault
inquiry_fault_in x (refused n p) = fault n p
inquiry_fault_in x (accepted v es) =
    first (call_rows x.call v (length es) ++ (lists_row x v (length es) ∷ anchor_rows x.call es))

unfoldable pub inquiry_fault : Inquiry → Fault
inquiry_fault x = inquiry_fault_in x (decode x.call.bytes)

-- the call's answer, or the inquiry's refusal
unfoldable pub answered : Inquiry → Result Answer Refusal
answered x = answer_in x.call (inquiry_fault x)

-- the call's memory then: as the call leaves it; untouched where the inquiry is refused
unfoldable pub call_memory : Inquiry → Memory
call_memory x = memory_in x.call (inquiry_fault x)

-- ---- the lists

-- the numbers, from k on, of the elements that pass a test
unfoldable pub numbers_of : {A : Type 0} → (A → Bool) → ℕ → List A → List ℕ
numbers_of test k [] = []
numbers_of test k (x ∷ xs) = cond (test x) (k ∷ numbers_of test (suc k) xs) (numbers_of test (suc k) xs)

-- a walk has reached the vertex
unfoldable pub is_reached : Vertex → Bool
is_reached p = ltb p.g unreached

-- the edge is barred, its tail is reached, and its head is not
unfoldable pub leaves : ℕ → List Vertex → Edge → Bool
leaves b st e = barred_by b e.class && is_reached (at st e.tail) && not (is_reached (at st e.head))

-- the vertices where the call's search ends
unfoldable pub last_vertices : Call → List Vertex
last_vertices c = (outcome c).final.state.vertices

-- those that are reached: where the answer is no route, all that can be (`walks`)
unfoldable pub reached : Call → List ℕ
reached c = numbers_of is_reached 0 (last_vertices c)

-- the edges that leave them, by their numbers among all edges in plan order
unfoldable pub leaving : Call → List ℕ
leaving c = numbers_of (leaves c.barred (last_vertices c)) 0 (plan_edges c)

-- nothing is listed unless the answer is no route
unfoldable pub listed_at : Result Answer Refusal → List ℕ → List ℕ
listed_at (Ok (Route s)) l = []
listed_at (Ok (NoRoute t)) l = l
listed_at (Ok (Unfinished t)) l = []
listed_at (Err e) l = []

unfoldable pub vertices_listed : Inquiry → List ℕ
vertices_listed x = listed_at (answered x) (reached x.call)

unfoldable pub edges_listed : Inquiry → List ℕ
edges_listed x = listed_at (answered x) (leaving x.call)

-- ---- what is handed over

unfoldable pub explanation : Inquiry → Explanation Refusal
explanation x = record { answer = answered x; vertices = length (vertices_listed x); edges = length (edges_listed x) }

-- each list stands over what was there
unfoldable pub vertices_after : Inquiry → List ℕ
vertices_after x = over (vertices_listed x) x.vertices

unfoldable pub edges_after : Inquiry → List ℕ
edges_after x = over (edges_listed x) x.edges

-- ---- what the lists are, so that neither has to be believed

abbrev pub Rises : List ℕ → Type 0
Rises l = (i : ℕ) → suc i < length l → get_or l i 0 < get_or l (suc i) 0

-- edge number j is barred, its tail is in the set, and its head is not
pub record Leaves (barred : ℕ) (edges : List Edge) (set : List ℕ) (j : ℕ) : Type 0 where
  pub edge : Edge
  pub number : j < length edges
  pub is : (other : Edge) → get_or edges j other ≡ edge
  pub class : Bit barred edge.class 1
  pub inside : Memᴰ edge.tail set
  pub outside : Memᴰ edge.head set → ⊥

-- why the job, whose edges are those of the plan that are permitted (`Guaranteed`'s `edges`), has no route: the set, and the barred edges of the
-- plan that leave it
pub record Reason (job : Job) (barred : ℕ) (edges : List Edge) (set leaving : List ℕ) : Type 0 where
  pub start : Memᴰ job.start set
  pub goal : Memᴰ job.goal set → ⊥
  -- no permitted edge leaves the set
  pub closed : (e : Edge) → Memᴰ e job.edges → Memᴰ e.tail set → Memᴰ e.head set
  -- a vertex is in the set exactly if a walk over permitted edges leads to it from the start
  pub walks : (x : ℕ) → Memᴰ x set ↔ ((n : ℕ) × (r : List ℕ) × Walk job.edges job.start x r n)
  pub rising : Rises set
  -- an edge is listed exactly if it is barred and leaves the set
  pub leaves : (j : ℕ) → Memᴰ j leaving ↔ Leaves barred edges set j
  pub in_order : Rises leaving

-- ---- the claim

-- V words for the vertices and M for the edges; a refused plan, whose refusal comes first, needs none
pub record ListRoom (x : Inquiry) : Type 0 where
  pub vertices : (job_of x.call).size ≤ length x.vertices
  pub edges : length (plan_edges x.call) ≤ length x.edges

-- the call, lent other memory
abbrev pub lent : Call → Memory → Call
lent c m =
    record {
      bytes = c.bytes;
      start = c.start;
      goal = c.goal;
      barred = c.barred;
      anchor = c.anchor;
      sheets = c.sheets;
      count = c.count;
      schedule = c.schedule;
      default_schedule = c.default_schedule;
      budget = c.budget;
      memory = m;
    }

-- the call, lent no route memory
abbrev pub without_route : Call → Call
without_route c = lent c (record { route = []; log = c.memory.log; work = c.memory.work; wide = c.memory.wide })

-- of one inquiry
pub record Reasoned (x : Inquiry) : Type 0 where
  -- not refused exactly if the call is admitted and both lists have room
  pub exact : inquiry_fault x ≡ none ↔ (Admitted x.call × ListRoom x)
  -- with room for the lists a refusal is the call's own; too short a list counts as route memory of no words does: 11 at 0, unless a row
  -- before 11 applies
  pub own : ListRoom x → inquiry_fault x ≡ fault_of x.call
  pub short : (ListRoom x → ⊥) → inquiry_fault x ≡ fault_of (without_route x.call)
  pub refusal : (n : Cause) (p : ℕ) → inquiry_fault x ≡ fault n p → (answered x ≡ Err (refusal_of n p)) × (call_memory x ≡ x.call.memory)
  -- else answer and memory are those of the call, of which its guarantee speaks
  pub same : inquiry_fault x ≡ none → (answered x ≡ answer x.call) × (call_memory x ≡ memory_after x.call)
  -- the answer is no route: the lists say why; else nothing is listed, and so lent lists are as they were
  pub reason :
      (figures (answered x)).ending ≡ no_route →
      Reason (job_of x.call) x.call.barred (plan_edges x.call) (vertices_listed x) (edges_listed x)
  pub silent : ((figures (answered x)).ending ≡ no_route → ⊥) → (vertices_listed x ≡ []) × (edges_listed x ≡ [])
  -- what is listed has room
  pub fits : (length (vertices_listed x) ≤ length x.vertices) × (length (edges_listed x) ≤ length x.edges)

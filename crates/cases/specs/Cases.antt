-- The cases that document 01 marks (p), one row each in one table, with classes and barred numbers as document 02 (E1) has them, and with both work memories (E10). Proved in proofs/Cases.antt.
use Rattle.graph.specs.declared.refusal.Cause.TheVariants as cause
use Rattle.std.specs.Prelude.{ℕ, ◌+◌, ◌-◌, ◌*◌, ◌≤◌, ◌≡◌, List, [], ◌∷◌, ◌++◌, map, length, take, replicate, Err}
use Rattle.graph.specs.declared.refusal.Cause.{Cause}
use Rattle.graph.specs.Refusal.{number_of, refusal_of}
use Rattle.graph.specs.Plan.{decode}
use Rattle.graph.specs.Plan
use Rattle.graph.specs.Lists.{over, read_answer}
use Rattle.search.specs.Job.{Job, factors, standard, route_end, at_first}
use Rattle.search.specs.Call.{Memory, Call, or_default, plan_edges, job_of}
use Rattle.search.specs.Admitted.{Schedule, Admitted}
use Rattle.search.specs.Outcome.{Figures, route, no_route, unfinished, refused, figures, work_words, wide_words, answer, memory_after}
use Rattle.job.specs.JobA.{plan_a, PrintsA}

-- ---- what a call hands over

-- the paper's number and values for each answer (unused figures are 0), and lent memory after the call
pub record HandsOver (c : Call) (f : Figures) (m : Memory) : Type 0 where
  pub says : figures (answer c) ≡ f
  pub leaves : memory_after c ≡ m

-- a route: kept cost, its number of vertices, finished rounds, turns, W1·W2 of the last finished round
abbrev pub routed : ℕ → ℕ → ℕ → ℕ → ℕ → Figures
routed cost vertices rounds turns bound =
    record { ending = route; number = 0; position = 0; cost = cost; length = vertices; rounds = rounds; turns = turns; bound = bound }

abbrev pub no_route_after : ℕ → Figures
no_route_after turns = record { ending = no_route; number = 0; position = 0; cost = 0; length = 0; rounds = 0; turns = turns; bound = 0 }

abbrev pub unfinished_after : ℕ → Figures
unfinished_after turns = record { ending = unfinished; number = 0; position = 0; cost = 0; length = 0; rounds = 0; turns = turns; bound = 0 }

abbrev pub refused_at : ℕ → ℕ → Figures
refused_at number position =
    record { ending = refused; number = number; position = position; cost = 0; length = 0; rounds = 0; turns = 0; bound = 0 }

-- plan bytes are refused, n at p: where they are read, where they are read into lists, and by every planner call, which leaves memory as it is
pub record PlanRefused (bytes : List ℕ) (n : Cause) (p : ℕ) : Type 0 where
  pub decoded : decode bytes ≡ Plan.refused n p
  pub read : (ts hs cs ks : List ℕ) → read_answer bytes ts hs cs ks ≡ Err (refusal_of n p)
  pub called : (c : Call) → c.bytes ≡ bytes → HandsOver c (refused_at (number_of n) p) c.memory

-- the causes of all refusals, by their numbers
abbrev pub causes : List Cause
causes =
    cause.Number ∷ cause.VertexCount ∷ cause.EdgeCount ∷ cause.Vertex ∷ cause.Cost ∷ cause.Order ∷ cause.LeftOver ∷ cause.Ends
    ∷ cause.Tables ∷ cause.Schedule ∷ cause.Memory ∷ cause.Goal ∷ cause.AnchorRule ∷ cause.Job ∷ cause.Class ∷ []

-- ---- plan A and job A

-- every word of lent memory before the call
abbrev pub old : ℕ
old = 7

-- no predecessor; past the route's end
abbrev pub unset : ℕ
unset = 4294967295

-- not reached, never expanded
abbrev pub never : ℕ
never = 18446744073709551615

-- lent memory: in each a word or number more than job A needs
abbrev pub lent : Memory
lent = record { route = replicate 5 old; log = replicate 5 old; work = replicate 26 old; wide = replicate 9 old }

-- job A's two rounds
abbrev pub schedule_a : List ℕ
schedule_a = 200 ∷ 200 ∷ 100 ∷ 100 ∷ []

-- job A with this memory, plan, barred number, anchor table and allowance
abbrev pub call_in : Memory → List ℕ → ℕ → List ℕ → ℕ → Call
call_in memory plan barred anchor budget =
    record {
      bytes = plan;
      start = 0;
      goal = 3;
      barred = barred;
      anchor = anchor;
      sheets = 0 ∷ 9 ∷ 0 ∷ 0 ∷ [];
      count = 1;
      schedule = schedule_a;
      default_schedule = standard;
      budget = budget;
      memory = memory;
    }

abbrev pub call_on : List ℕ → ℕ → List ℕ → ℕ → Call
call_on plan barred anchor budget = call_in lent plan barred anchor budget

-- plan A, no class barred
abbrev pub call_a : List ℕ → ℕ → Call
call_a anchor budget = call_on plan_a 0 anchor budget

-- a call with this anchor table, so many guides whose sheets these are, and this schedule in place of its own
abbrev pub with_tables : List ℕ → ℕ → List ℕ → List ℕ → Call → Call
with_tables anchor count sheets schedule c =
    record {
      bytes = c.bytes;
      start = c.start;
      goal = c.goal;
      barred = c.barred;
      anchor = anchor;
      sheets = sheets;
      count = count;
      schedule = schedule;
      default_schedule = c.default_schedule;
      budget = c.budget;
      memory = c.memory;
    }

abbrev pub anchor_a : List ℕ
anchor_a = 6 ∷ 5 ∷ 3 ∷ 0 ∷ []

abbrev pub job_a : ℕ → Call
job_a budget = call_a anchor_a budget

-- work memory: first edge numbers (the last is M), heads, costs, these classes, then predecessor and marks of vertices 0 to 3, and one word as it was
abbrev pub work_with : List ℕ → List ℕ → List ℕ → List ℕ → List ℕ → List ℕ
work_with classes p q r s =
    (0 ∷ 2 ∷ 3 ∷ 4 ∷ 4 ∷ []) ++ (1 ∷ 2 ∷ 2 ∷ 3 ∷ []) ++ (1 ∷ 4 ∷ 2 ∷ 3 ∷ []) ++ classes ++ p ++ q ++ r ++ s ++ (old ∷ [])

abbrev pub work_a : List ℕ → List ℕ → List ℕ → List ℕ → List ℕ
work_a p q r s = work_with (0 ∷ 0 ∷ 0 ∷ 0 ∷ []) p q r s

-- the wide work memory: g and cost when last expanded of vertices 0 to 3, and one number as it was
abbrev pub wide_a : List ℕ → List ℕ → List ℕ → List ℕ → List ℕ
wide_a p q r s = p ++ q ++ r ++ s ++ (old ∷ [])

-- lent memory after all of job A
abbrev pub after_a : Memory
after_a =
    record {
      route = 0 ∷ 1 ∷ 2 ∷ 3 ∷ old ∷ [];
      log = 65536 ∷ 65538 ∷ 1 ∷ 65538 ∷ old ∷ [];
      work = work_a (unset ∷ 0 ∷ []) (0 ∷ 2 ∷ []) (1 ∷ 1 ∷ []) (2 ∷ 4 ∷ []);
      wide = wide_a (0 ∷ 0 ∷ []) (1 ∷ 1 ∷ []) (3 ∷ 3 ∷ []) (6 ∷ never ∷ []);
    }

-- ---- `02 00`, from 0 to 1

-- zero anchor table, no guides
abbrev pub two_vertices : ℕ → List ℕ → List ℕ → ℕ → Memory → Call
two_vertices barred schedule default budget memory =
    record {
      bytes = 0x02 ∷ 0x00 ∷ [];
      start = 0;
      goal = 1;
      barred = barred;
      anchor = 0 ∷ 0 ∷ [];
      sheets = [];
      count = 0;
      schedule = schedule;
      default_schedule = default;
      budget = budget;
      memory = memory;
    }

-- lent memory that is large enough: V words of route memory, 3V+1+3M of work memory, 2V numbers of the wide one
pub record Enough (v m : ℕ) (memory : Memory) : Type 0 where
  pub route : v ≤ length memory.route
  pub work : 3 * v + 1 + 3 * m ≤ length memory.work
  pub wide : 2 * v ≤ length memory.wide

-- memory after it: route memory as it was, one turn logged (vertex 0, the anchor), and work memory: three first edge numbers, two vertices; their costs
abbrev pub two_vertices_after : Memory → Memory
two_vertices_after m =
    record {
      route = m.route;
      log = over (take (length m.log) (0 ∷ [])) m.log;
      work = over (0 ∷ 0 ∷ 0 ∷ unset ∷ 2 ∷ unset ∷ 0 ∷ []) m.work;
      wide = over (0 ∷ 0 ∷ never ∷ never ∷ []) m.wide;
    }

-- ---- start = goal

-- cost 0, every round finished, no turn
abbrev pub all_rounds : Call → Figures
all_rounds c =
    let job : Job = job_of c in
    let rounds : ℕ = length job.schedule in
    routed 0 1 rounds 0 ((factors job (rounds - 1)).w1 * (factors job (rounds - 1)).w2)

-- the start alone is the route, nothing is logged, and the vertices are as at first
abbrev pub start_alone : Call → Memory
start_alone c =
    let v : ℕ = (job_of c).size in
    record {
      route = over (c.start ∷ replicate (v - 1) route_end) c.memory.route;
      log = c.memory.log;
      work = over (work_words v (plan_edges c) (at_first v c.start)) c.memory.work;
      wide = over (wide_words (at_first v c.start)) c.memory.wide;
    }

-- ---- the table

pub record Cases : Type 0 where
  -- (p) Job A
  pub job_A : HandsOver (job_a 100) (routed 6 4 2 4 10000) after_a
  -- (p) allowance 2: route 0 2 3, cost 7, one round, bound 40000
  pub job_A_at_2 :
      HandsOver (job_a 2) (routed 7 3 1 2 40000)
      (record {
        route = 0 ∷ 2 ∷ 3 ∷ unset ∷ old ∷ [];
        log = 65536 ∷ 65538 ∷ old ∷ old ∷ old ∷ [];
        work = work_a (unset ∷ 0 ∷ []) (0 ∷ 4 ∷ []) (0 ∷ 0 ∷ []) (2 ∷ 4 ∷ []);
        wide = wide_a (0 ∷ 0 ∷ []) (1 ∷ never ∷ []) (4 ∷ 4 ∷ []) (7 ∷ never ∷ []);
      })
  -- (p) allowance 1: unfinished
  pub job_A_at_1 :
      HandsOver (job_a 1) (unfinished_after 1)
      (record {
        route = old ∷ old ∷ old ∷ old ∷ old ∷ [];
        log = 65536 ∷ old ∷ old ∷ old ∷ old ∷ [];
        work = work_a (unset ∷ 1 ∷ []) (0 ∷ 4 ∷ []) (0 ∷ 4 ∷ []) (unset ∷ 0 ∷ []);
        wide = wide_a (0 ∷ 0 ∷ []) (1 ∷ never ∷ []) (4 ∷ never ∷ []) (never ∷ never ∷ []);
      })
  -- the same three from job bytes, as the bench program prints them
  pub job_A_prints : PrintsA
  -- (p) `02 00`, 0 to 1, zero anchor table, no guides, allowance 1 or more: no route, 1 turn; whatever classes are barred, whichever schedule it takes
  pub between_two_vertices :
      (barred : ℕ) → barred ≤ 255 → (ws default : List ℕ) → Schedule (or_default default ws) → (budget : ℕ) → 1 ≤ budget →
      (m : Memory) → Enough 2 0 m → HandsOver (two_vertices barred ws default budget m) (no_route_after 1) (two_vertices_after m)
  -- (p) Start = goal, allowance 0, valid tables: cost 0, every round finished. So of every call that is not refused
  pub start_is_goal : (c : Call) → Admitted c → c.start ≡ c.goal → HandsOver c (all_rounds c) (start_alone c)
  -- the number of each cause: 1 to 15
  pub numbers : map number_of causes ≡ 1 ∷ 2 ∷ 3 ∷ 4 ∷ 5 ∷ 6 ∷ 7 ∷ 8 ∷ 9 ∷ 10 ∷ 11 ∷ 12 ∷ 13 ∷ 14 ∷ 15 ∷ []
  -- (p) no bytes: 1 at 0
  pub no_bytes : PlanRefused [] cause.Number 0
  -- (p) `80 00`: 1 at 0
  pub not_shortest : PlanRefused (0x80 ∷ 0x00 ∷ []) cause.Number 0
  -- (p) `04`: 1 at 1
  pub no_edge_count : PlanRefused (0x04 ∷ []) cause.Number 1
  -- (p) plan A, anchor 7 5 3 0: 13 at 0
  pub anchor_breaks_edge_0 : HandsOver (call_a (7 ∷ 5 ∷ 3 ∷ 0 ∷ []) 100) (refused_at 13 0) lent
  -- (p) plan A, anchor 6 5 3 1: 12
  pub anchor_not_0_at_goal : HandsOver (call_a (6 ∷ 5 ∷ 3 ∷ 1 ∷ []) 100) (refused_at 12 0) lent

-- Start = goal: step 1 finishes every round, and nothing is expanded.
use mathlib.Core.Path.{◌≡◌, refl, sym, ap, ◌∙◌}
use mathlib.Core.Bool.{Bool, true, false, cond, ◌||◌}
use mathlib.Core.List.{List, [], ◌∷◌, map}
use Prim.Native.Nat.{ℕ, zero, suc, ◌+◌, ◌-◌, ◌<◌}
use native.Mathlib.Omega.{arith}
use lib.ListN.{length, replicate, length-replicate}
use lib.Seq.{take-nil}
use lib.Dec.{ltb, eqb}
use borrow.Author.Tests.{eq-eqb, ne_eqb}
use Rattle.graph.specs.Refusal.{number_of}
use Rattle.graph.specs.Plan.{Decoded, accepted, refused, decode}
use Rattle.graph.specs.Lists.{none, over}
use Rattle.search.specs.declared.Vertex.{Vertex}
use Rattle.search.specs.declared.Step.{Step}
use Rattle.search.specs.declared.Step.TheVariants.{Finished, Due}
use Rattle.search.specs.Walk.{route_cost, cost_from}
use Rattle.search.specs.Job.{State, Job, guides, unreached, fresh, origin, at_first, at}
use Rattle.search.specs.Rounds.{Stand, first_turn, ended, step, trace, traced, improves, cost_or, reopened, end_round, on_finished, settle, begin, run, moments, search}
use Rattle.search.specs.Call.{Call, fault_of, job_in, job_from, job_of}
use Rattle.search.specs.Outcome.{bound, summary, answer_at, answer_of, figures, route_words, route_after, log_after, outcome, answer_in, memory_in}
use Rattle.search.proofs.Tools.{at_set_same}
use Rattle.search.proofs.Facts.{Valid}
use Rattle.search.proofs.Rule.{StepView, at_stuck, at_finished, at_due, step_view}
use Rattle.search.proofs.Runs.{run_over, moments_over, finished≢due}
use Rattle.search.specs.Admitted.{Admitted}
use Rattle.search.proofs.Admitted.{exact, admitted}
use Rattle.cases.specs.Cases.{HandsOver, all_rounds, start_alone}
use Rattle.cases.proofs.Ends.{settled_at, handed}

-- a round's beginning changes nothing at first
blank_reopened : (n : ℕ) → map reopened (replicate n fresh) ≡ replicate n fresh
unfolding reopened fresh
blank_reopened zero = refl
blank_reopened (suc n) = ap (λ (ps : List Vertex). fresh ∷ ps) (blank_reopened n)

first_reopened : (n s : ℕ) → map reopened (at_first n s) ≡ at_first n s
unfolding at_first reopened fresh origin
first_reopened zero s = refl
first_reopened (suc n) zero = ap (λ (ps : List Vertex). origin ∷ ps) (blank_reopened n)
first_reopened (suc n) (suc s) = ap (λ (ps : List Vertex). fresh ∷ ps) (first_reopened n s)

cond_same : {A : Type 0} (b : Bool) (x : A) → cond b x x ≡ x
cond_same true x = refl
cond_same false x = refl

trace_at : (p : ℕ → ℕ) (start n : ℕ) → 0 < n → trace p start n start [] ≡ start ∷ []
unfolding trace
trace_at p start zero h = absurd (omega arith)
trace_at p start (suc n) h = rw (eq-eqb start start refl, trace)

module _ (job : Job) (v : Valid job) (same : job.start ≡ job.goal) where
  -- after r rounds, with this incumbent
  abbrev state : ℕ → List ℕ → State
  state r route =
      record {
        vertices = at_first job.size job.start;
        progress = record { turn = first_turn (guides job); expansions = 0; rounds = r; cost = 0 };
        incumbent = route;
      }

  at_goal : at (at_first job.size job.start) job.goal ≡ origin
  unfolding at_first
  at_goal = rw (← same) (at_set_same (replicate job.size fresh) job.start origin (rw length-replicate v.starts))

  finished : (r : ℕ) (route : List ℕ) → step job (state r route) ≡ Finished
  unfolding origin unreached
  finished r route = by (step job (state r route)) (step_view job (state r route))
    where
      by : (t : Step) → StepView job (state r route) t → t ≡ Finished
      by t (at_stuck k) = absurd (k job.goal (rw at_goal tt))
      by t (at_finished m a l g le) = refl
      by t (at_due m a l k) = absurd (k (rw at_goal (omega arith)) (rw at_goal (omega arith)))

  trace_is : (r : ℕ) (route : List ℕ) → traced job (state r route) ≡ job.start ∷ []
  unfolding traced
  trace_is r route = rw (← same) (trace_at (λ x. (at (at_first job.size job.start) x).pred) job.start job.size (omega (arith, v.starts)))

  unchanged : (b : Bool) → cond b (map reopened (at_first job.size job.start)) (at_first job.size job.start) ≡ at_first job.size job.start
  unchanged b = rw first_reopened (cond_same b _)

  -- the first round's end finds the route, and the others keep it
  ends_first : end_round job (state 0 []) ≡ state 1 (job.start ∷ [])
  unfolding end_round ended improves cost_or route_cost cost_from
  ends_first = rw (trace_is 0 [], unchanged (ltb 1 (length job.schedule)))

  ends_again : (r : ℕ) → end_round job (state r (job.start ∷ [])) ≡ state (suc r) (job.start ∷ [])
  unfolding end_round ended improves cost_or route_cost cost_from
  ends_again r =
      rw (
        trace_is r (job.start ∷ []),
        unchanged (ltb (suc r) (length job.schedule)),
        cond_same {A = ℕ} (eqb r 0 || ltb 0 0) 0,
        cond_same (eqb r 0 || ltb 0 0) (job.start ∷ []),
      )

  abbrev done : ℕ → Stand
  done r = record { step = Finished; state = state r (job.start ∷ []) }

  settles : (n r : ℕ) → settle job n (state r (job.start ∷ [])) ≡ done (n + r)
  unfolding settle on_finished
  settles zero r = ap done (omega arith)
  settles (suc n) r = rw (finished r (job.start ∷ []), ends_again r) (settles n (suc r) ∙ ap done (omega arith))

  begins : begin job ≡ done (length job.schedule)
  unfolding begin on_finished
  begins =
      settled_at job (state 0 []) (length job.schedule - 1) (omega (arith, v.some))
      ∙ rw (finished 0 [], ends_first) (settles (length job.schedule - 1) 1 ∙ ap done (omega (arith, v.some)))

  over_at : (m a : ℕ) → (begin job).step ≡ Due m a → ⊥
  over_at m a e = finished≢due (rw begins at e)

  runs : (n : ℕ) → run job n (begin job) ≡ done (length job.schedule)
  runs n = run_over job (begin job) over_at n ∙ begins

  no_turns : (n : ℕ) → moments job n (begin job) ≡ []
  no_turns n = moments_over job (begin job) over_at n

-- ---- what is handed over

start_of : (c : Call) (d : Decoded) → (job_from c d).start ≡ c.start
unfolding job_from job_in
start_of c (accepted v es) = refl
start_of c (refused n p) = refl

goal_of : (c : Call) (d : Decoded) → (job_from c d).goal ≡ c.goal
unfolding job_from job_in
goal_of c (accepted v es) = refl
goal_of c (refused n p) = refl

module _ (c : Call) (y : Admitted c) (same : c.start ≡ c.goal) where
  abbrev e : fault_of c ≡ none
  e = (exact c).1 y

  starts : (job_of c).start ≡ c.start
  unfolding job_of
  starts = start_of c (decode c.bytes)

  same_ends : (job_of c).start ≡ (job_of c).goal
  unfolding job_of
  same_ends = start_of c (decode c.bytes) ∙ same ∙ sym (goal_of c (decode c.bytes))

  abbrev valid : Valid (job_of c)
  valid = admitted c e

  says : figures (answer_in c none) ≡ all_rounds c
  unfolding answer_in outcome search answer_of answer_at figures number_of summary bound
  says = rw (runs (job_of c) valid same_ends c.budget)

  leaves : memory_in c none ≡ start_alone c
  unfolding memory_in outcome search route_after route_words log_after
  leaves =
      rw (
        runs (job_of c) valid same_ends c.budget,
        no_turns (job_of c) valid same_ends c.budget,
        ne_eqb (length (job_of c).schedule) 0 (λ z. omega (arith, valid.some)),
        take-nil (length c.memory.log),
        starts,
      )
      (unfold over in refl)

  pub start_is_goal : HandsOver c (all_rounds c) (start_alone c)
  start_is_goal = handed c _ _ e says leaves

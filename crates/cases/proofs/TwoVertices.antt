-- Two vertices and no edge: no route after one turn.
use mathlib.Core.Path.{◌≡◌, refl, ◌∙◌, ap}
use mathlib.Core.List.Memᴰ
use mathlib.Core.List.{List, [], ◌∷◌}
use Prim.Native.Nat.{ℕ, zero, suc, ◌+◌, ◌*◌, ◌-◌, ◌≤◌}
use native.Mathlib.Nat.{not-suc-le-zero}
use native.Mathlib.Omega.{arith}
use lib.ListN.{length}
use Rattle.leb128.specs.Number
use Rattle.leb128.specs.Number.{plan_groups, answered, read}
use Rattle.graph.specs.Refusal.{number_of}
use Rattle.graph.specs.Rows.{vertex_count_rows, edge_count_rows, through, through_all, take_number, taking}
use Rattle.graph.specs.Plan.{edges_from, header, after_header, decode}
use Rattle.graph.specs.Lists.{none, edges_in}
use Rattle.search.specs.declared.Factors.{Factors}
use Rattle.search.specs.declared.Step.TheVariants.{Stuck, Due}
use Rattle.search.specs.Permitted.{permitted}
use Rattle.search.specs.Job.{State, Job, cyclic, guides, heuristic, factors, unreached, no_opinion, no_pred, fresh, origin, at_first, at}
use Rattle.search.specs.Turn.{key, offered, better, least_from, least, step_one, candidate, choose, marked, relax_all, expand}
use Rattle.search.specs.Rounds.{Stand, Moment, first_turn, next_turn, turned, in_hand, step, choice, turn, on_finished, begin, on_due, advance, run, moments, search}
use Rattle.search.specs.Call.{Memory, Call, or_default, schedule_of, pairs, fault_of, plan_edges, tables, job_in, job_from, job_of}
use Rattle.search.specs.Outcome.{answer_at, answer_of, figures, route_after, log_word, log_after, edges_below, first_edges, mark_word, two_each, work_words, outcome, answer_in, memory_in}
use Rattle.search.specs.Admitted.{Schedule}
use Rattle.search.proofs.Admitted.{clear_none}
use Rattle.search.proofs.Runs.{run_over, moments_over, stuck≢due}
use Rattle.cases.specs.Cases.{HandsOver, Enough, two_vertices, no_route_after, two_vertices_after}
use Rattle.cases.proofs.Ends.{settled_at, handed}

not_refused : (b : ℕ) → b ≤ 255 → (ws default : List ℕ) → Schedule (or_default default ws) → (n : ℕ) (m : Memory) → Enough 2 0 m → fault_of (two_vertices b ws default n m) ≡ none
unfolding Number.decode answered read plan_groups vertex_count_rows edge_count_rows through through_all take_number taking edges_from header after_header decode fault_of schedule_of
not_refused b k ws default y n m e =
    clear_none (two_vertices b ws default n m) 2 []
    (record {
      starts = omega arith;
      ends = omega arith;
      barred = k;
      few = omega arith;
      anchored = refl;
      guided = refl;
      schedule = y;
      route_room = e.route;
      work_room = e.work;
      wide_room = e.wide;
      goal_zero = refl;
      rule = λ d q. absurd (Memᴰ.not-nil q);
    })

-- ---- the search, in whatever rounds

module _ (f : Factors) (fs : List Factors) where
  abbrev job : Job
  job = record { size = 2; edges = []; start = 0; goal = 1; heuristics = (0 ∷ 0 ∷ []) ∷ []; schedule = f ∷ fs; pick = cyclic }

  -- the state before and after the one turn
  abbrev before : State
  before =
      record {
        vertices = origin ∷ fresh ∷ [];
        progress = record { turn = 0; expansions = 0; rounds = 0; cost = 0 };
        incumbent = [];
      }

  abbrev after : State
  after =
      record {
        vertices = marked 0 origin ∷ fresh ∷ [];
        progress = record { turn = 0; expansions = 1; rounds = 0; cost = 0 };
        incumbent = [];
      }

  abbrev moment : Moment
  moment = record { before = before; choice = record { heuristic = 0; vertex = 0 } }

  abbrev first : Stand
  first = record { step = Due (100 * 0 + f.w1 * 0) 0; state = before }

  abbrev last : Stand
  last = record { step = Stuck; state = after }

  one_left : suc (length fs) - 0 ≡ suc (length fs)
  one_left = omega arith

  begins : begin job ≡ first
  unfolding begin at_first guides first_turn on_finished step step_one in_hand factors heuristic least least_from better offered no_opinion key origin fresh unreached at
  begins = settled_at job before (length fs) one_left

  turns : advance job first ≡ last
  unfolding advance on_due turn choice cyclic choose candidate expand relax_all marked turned next_turn first_turn guides on_finished step step_one in_hand factors heuristic least least_from better offered no_opinion key origin fresh unreached at
  turns = settled_at job after (length fs) one_left

  ended : (m a : ℕ) → last.step ≡ Due m a → ⊥
  ended m a e = stuck≢due e

  runs : (n : ℕ) → run job (suc n) (begin job) ≡ last
  unfolding run on_due
  runs n = rw begins (ap (run job n) turns ∙ run_over job last ended n)

  turned_once : (n : ℕ) → moments job (suc n) (begin job) ≡ moment ∷ []
  unfolding moments on_due choice cyclic choose candidate
  turned_once n = rw begins (ap (λ (z : Stand). moment ∷ moments job n z) turns ∙ ap (λ (ts : List Moment). moment ∷ ts) (moments_over job last ended n))

-- ---- what is handed over

module _ (n : ℕ) (m : Memory) (f : Factors) (fs : List Factors) (c : Call) (e : job_of c ≡ job f fs) (b : c.budget ≡ suc n) (es : edges_in (decode c.bytes) ≡ [])
    (lent : c.memory ≡ m) where
  says : figures (answer_in c none) ≡ no_route_after 1
  unfolding answer_in outcome search answer_of answer_at figures number_of
  says = rw (e, b, runs f fs n)

  leaves : memory_in c none ≡ two_vertices_after m
  unfolding plan_edges memory_in outcome search route_after log_after log_word work_words first_edges edges_below two_each mark_word marked origin fresh unreached no_pred
  leaves = rw (e, b, es, lent, runs f fs n, turned_once f fs n)

some_rounds : (ws : List ℕ) → Schedule ws → (f : Factors) × (fs : List Factors) × (pairs ws ≡ f ∷ fs)
unfolding pairs
some_rounds [] y = absurd (omega (arith, y.some, y.two))
some_rounds (u ∷ []) y = absurd (omega (arith, y.two))
some_rounds (u ∷ v ∷ ws) y = (_, _, refl)

rounds_of :
    (b : ℕ) (ws default : List ℕ) → Schedule (or_default default ws) → (n : ℕ) (m : Memory) →
    (f : Factors) × (fs : List Factors) × (job_of (two_vertices b ws default n m) ≡ job f fs)
unfolding Number.decode answered read plan_groups vertex_count_rows edge_count_rows through through_all take_number taking edges_from header after_header decode schedule_of permitted cyclic tables job_in job_from job_of
rounds_of b ws default y n m = let r = some_rounds (or_default default ws) y in (r.0, r.1, rw r.2)

pub between_two_vertices :
    (b : ℕ) → b ≤ 255 → (ws default : List ℕ) → Schedule (or_default default ws) → (n : ℕ) → 1 ≤ n → (m : Memory) → Enough 2 0 m →
    HandsOver (two_vertices b ws default n m) (no_route_after 1) (two_vertices_after m)
unfolding Number.decode answered read plan_groups vertex_count_rows edge_count_rows through through_all take_number taking edges_from header after_header decode edges_in
between_two_vertices b k ws default y zero h m e = absurd (not-suc-le-zero h)
between_two_vertices b k ws default y (suc n) h m e =
    let c : Call = two_vertices b ws default (suc n) m in
    let r = rounds_of b ws default y (suc n) m in
    handed c _ _ (not_refused b k ws default y (suc n) m e) (says n m r.0 r.1 c r.2 refl refl refl) (leaves n m r.0 r.1 c r.2 refl refl refl)

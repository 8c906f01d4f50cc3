-- Job A, job A with a barred lane, a job without any opinion, a blind alley and job B are admitted, and the guarantee bounds the cost of every walk.
use mathlib.Core.Path.{◌≡◌, refl, ap, subst}
use mathlib.Core.List.{List, [], ◌∷◌, map, Memᴰ}
use Prim.Native.Nat.{ℕ, ◌*◌, ◌≤◌}
use native.Mathlib.Omega.{arith}
use Rattle.leb128.specs.Number
use Rattle.leb128.specs.Number.{plan_groups, more, answered, read}
use Rattle.graph.specs.Rows.{vertex_count_rows, edge_count_rows, tail_rows, head_rows, cost_rows, class_rows, through, through_all, take_number, taking}
use Rattle.graph.specs.Plan.{least_after, past, next_edge, before, onward, edges_from, header, after_header, decode}
use Rattle.graph.specs.Lists.{none}
use Rattle.search.specs.Job.{Job}
use Rattle.search.specs.Rounds.{Moment}
use Rattle.search.specs.Permitted.{barred_by, permitted}
use Rattle.search.specs.Call.{Call, or_default, schedule_of, out_of_range, rising, unfit_schedule, row, first, ends_row, tables_row, schedule_row, memory_row, goal_row, edges_row, fault_in, fault_of, job_in, job_from, job_of}
use Rattle.search.specs.Outcome.{Figures, figures, outcome, answer, memory_after}
use Rattle.search.specs.Guarantee.{Joins, Led, Guarantee}
use Rattle.search.proofs.Guarantee.{guaranteed, any_rule}
use Rattle.cases.specs.Cases.{routed, job_a}
use Rattle.cases.specs.Apart.{job_b, job_b3}
use Rattle.cases.specs.Barred.{ramp_a}
use Rattle.cases.specs.Opinion.{silent_fork}
use Rattle.cases.specs.Lead.{Shown, shown, turns_of, alley}
use Rattle.cases.specs.Instance.{Instance}
use Rattle.cases.proofs.Cases.{all_cases, apart, barred, opinion, lead}

admits : (fault_of (job_a 100) ≡ none) × (fault_of job_b ≡ none) × (fault_of (ramp_a 2) ≡ none) × (fault_of silent_fork ≡ none) × (fault_of (alley 24 12 100) ≡ none) × (fault_of (alley 24 12 2) ≡ none)
unfolding Number.decode more answered read plan_groups vertex_count_rows edge_count_rows tail_rows head_rows cost_rows class_rows through through_all take_number taking least_after past next_edge before onward edges_from header after_header decode or_default schedule_of out_of_range rising unfit_schedule row first ends_row tables_row schedule_row memory_row goal_row edges_row fault_in fault_of
admits = (refl, refl, refl, refl, refl, refl)

holds : Guarantee (job_of (job_a 100)) 100 (outcome (job_a 100)) (answer (job_a 100)) (memory_after (job_a 100))
holds = (guaranteed (job_a 100)).guarantee admits.0

-- of a call with this kept cost and this bound
bounded_by :
    (c : Call) → fault_of c ≡ none → {k l rounds turns bound : ℕ} → figures (answer c) ≡ routed k l rounds turns bound →
    (r : List ℕ) (n : ℕ) → Joins (job_of c) r n → 10000 * k ≤ bound * n
bounded_by c e says r n w = rw says at (((guaranteed c).guarantee e).bounded (ap (λ (f : Figures). f.ending) says) r n w)

-- what `Led` says of a turn with these numbers, and of all of them
unfoldable LedBy : ℕ → Shown → Type 0
LedBy n (i, s, k, w1, w2) = (100 * k ≤ w1 * w2 * n) × (i ≡ 0 → k ≤ w1 * n)

unfoldable AllLed : ℕ → List Shown → Type 0
AllLed n [] = Unit {0}
AllLed n (x ∷ xs) = LedBy n x × AllLed n xs

each_led : (job : Job) (ts : List Moment) → ((t : Moment) → Memᴰ t ts → Led job t) → (r : List ℕ) (n : ℕ) → Joins job r n → AllLed n (map (shown job) ts)
unfolding LedBy AllLed shown
each_led job [] f r n w = tt
each_led job (t ∷ ts) f r n w =
    let l : Led job t = f t (Memᴰ.head refl) in
    ((omega (arith, l.guide r n w), λ e. l.anchor (rw e) r n w), each_led job ts (λ u m. f u (Memᴰ.tail m)) r n w)

-- of a call whose turns have these numbers
led_by : (c : Call) → fault_of c ≡ none → {xs : List Shown} → turns_of c ≡ xs → (r : List ℕ) (n : ℕ) → Joins (job_of c) r n → AllLed n xs
led_by c e says r n w = subst (AllLed n) says (each_led (job_of c) (outcome c).history ((guaranteed c).guarantee e).led r n w)

other : (r : List ℕ) (n : ℕ) → Joins job_b3 r n → 10000 * 4 ≤ 10000 * n
other r n w =
    let says = apart.guide_3_says in
    rw says at (((any_rule job_b).guarantee admits.1 (λ s. 3)).bounded (ap (λ (f : Figures). f.ending) says) r n w)

pub instance : Instance
unfolding Number.decode answered read plan_groups vertex_count_rows edge_count_rows tail_rows head_rows cost_rows class_rows through through_all take_number taking least_after past next_edge before onward edges_from header after_header decode barred_by permitted job_in job_from job_of LedBy AllLed
instance =
    record {
      admitted = admits.0;
      edges = refl;
      guarantee = holds;
      bounded = bounded_by (job_a 100) admits.0 all_cases.job_A.says;
      led = λ r n w. let l = led_by (job_a 100) admits.0 lead.job_A r n w in (l.0.0, omega (arith, l.1.0.0), omega (arith, l.1.1.0.1 refl), omega (arith, l.1.1.1.0.0));
      permitted_edges = refl;
      barred = λ r n w. omega (arith, bounded_by (ramp_a 2) admits.2 barred.ramp.says r n w);
      silent = bounded_by silent_fork admits.3 opinion.silent_fork_case.says;
      alley_led = λ r n w. let l = led_by (alley 24 12 100) admits.4 lead.reached r n w in (omega (arith, l.1.0.0), omega (arith, l.1.1.0.1 refl));
      alley_cut = λ r n w. omega (arith, (led_by (alley 24 12 2) admits.5 lead.reached_at_2 r n w).1.0.0);
      any_rule = other;
    }

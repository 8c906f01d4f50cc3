-- The answer, by the record of the search in hand and by route memory.
use Prim.Native.Nat.{ℕ, ◌-◌, ◌*◌, ◌≤◌, ◌<◌}
use native.Mathlib.Nat.{mul-le-mul_left, mul-le-mul_right}
use native.Mathlib.Omega.{arith}
use mathlib.Core.Path.{◌≡◌, refl, sym, ap, ◌∙◌, subst}
use mathlib.Core.Bool.{Bool, true, false, cond}
use mathlib.Core.List.{List}
use lib.ListN.{length, get_or, take}
use lib.Dec.{eqb}
use borrow.Author.Tests.{eq-eqb, ne_eqb, eqb-false}
use Rattle.search.specs.declared.Factors.{Factors}
use Rattle.search.specs.declared.Progress.{Progress}
use Rattle.search.specs.declared.Step.{Step}
use Rattle.search.specs.declared.Step.TheVariants.{Stuck, Finished, Due}
use Rattle.search.specs.declared.Summary.{Summary}
use Rattle.search.specs.declared.Answer.{Answer}
use Rattle.search.specs.declared.Answer.TheVariants.{Route, NoRoute, Unfinished}
use Rattle.search.specs.Bounds.{max_factor}
use Rattle.search.specs.Job.{State, Job, factors, route_end}
use Rattle.search.specs.Rounds.{Stand}
use Rattle.search.specs.Call.{Call, schedule_of, pairs, job_of}
use Rattle.search.specs.Outcome.{bound, summary, cut_short, answer_at, answer_of}
use Rattle.search.proofs.Facts.{Valid, InRange}
use Rattle.search.proofs.Admitted.{admitted, job_schedule}
use Rattle.search.proofs.Incumbent as kept
use Rattle.search.proofs.Standing.{Says}
use Rattle.graph.specs.declared.Size.{Size}
use Rattle.workspace.specs.Layout.{Words}
use Rattle.route.specs.Kept.{up_to_end}
use Rattle.route.proofs.Counted.{walk_below, incumbent_length}
use Rattle.planner.specs.declared.Standing.{Standing}
use Rattle.planner.specs.Carried.{Fits, Carries}
use Rattle.planner.specs.Finished.{factors_in, summary_in, cut_in, Figured, AtEnd}
use Rattle.planner.proofs.Jobs.{job_factors}
use Rattle.planner.proofs.Asked.{in_range, route_long, small}

-- ---- the figures, as the code makes them

module _ (z : Size) (p : Progress) (schedule route : List ℕ) where
  module _ (f : Factors) (e : f ≡ get_or (pairs schedule) (p.rounds - 1) (record { w1 = 0; w2 = 0 })) where
    last_is : f ≡ factors_in schedule p.rounds
    unfolding factors_in
    last_is = e

    pub bound_fits : Figured z p schedule route → 0 < p.rounds → f.w1 * f.w2 ≤ max_factor * max_factor
    bound_fits h some =
        let a : f.w1 ≤ max_factor = omega (arith, ap (λ (x : Factors). x.w1) last_is, h.w1 some) in
        let b : f.w2 ≤ max_factor = omega (arith, ap (λ (x : Factors). x.w2) last_is, h.w2 some) in
        omega (arith, mul-le-mul_left f.w1 b, mul-le-mul_right max_factor a)

    pub figures_are :
        (n : ℕ) → n ≡ length (up_to_end (take z.vertices route)) →
        ◌≡◌ {A = Summary} (record { cost = p.cost; length = n; rounds = p.rounds; expansions = p.expansions; bound = f.w1 * f.w2 }) (summary_in z p schedule route)
    unfolding summary_in
    figures_are n l = rw (l, last_is) refl

  pub cut_first : p.rounds ≡ 0 → Unfinished p.expansions ≡ cut_in z p schedule route
  unfolding cut_in
  cut_first e = rw (eq-eqb p.rounds 0 e) refl

  pub cut_later : (r : Summary) → (p.rounds ≡ 0 → ⊥) → r ≡ summary_in z p schedule route → Route r ≡ cut_in z p schedule route
  unfolding cut_in
  cut_later r n e = rw (ne_eqb p.rounds 0 n) (ap Route e)

-- ---- the figures, of the state in hand

module _ (c : Call) (z : Size) (a : Fits c z) (s : State) (p : Progress) (schedule route : List ℕ) (m : Words) (d : schedule ≡ schedule_of c)
    (k : Carries c z s p m route) where
  abbrev job : Job
  job = job_of c

  rounds_is : p.rounds ≡ s.progress.rounds
  rounds_is = ap (λ (x : Progress). x.rounds) k.progress

  length_is : 0 < s.progress.rounds → length (up_to_end (take z.vertices route)) ≡ length s.incumbent
  unfolding route_end
  length_is some =
      let v : Valid job = admitted c a.admitted in
      let r : kept.Route job s.incumbent s.progress.cost = k.ok.kept.route some in
      ap (λ (n : ℕ). length (up_to_end (take n route))) a.vertices
      ∙ incumbent_length job s c.memory.route route some r.short (walk_below job.edges job.size v.heads r.walk v.starts)
      (omega (arith, a.vertices, small c z a)) k.kept

  factors_are : factors_in schedule p.rounds ≡ factors job (s.progress.rounds - 1)
  unfolding factors_in
  factors_are =
      ap (λ (l : List ℕ). get_or (pairs l) (p.rounds - 1) (record { w1 = 0; w2 = 0 })) d
      ∙ sym (job_factors c (p.rounds - 1))
      ∙ ap (λ (n : ℕ). factors job (n - 1)) rounds_is

  pub summary_is : 0 < p.rounds → summary_in z p schedule route ≡ summary job s
  unfolding summary_in summary bound
  summary_is some = rw (length_is (omega (arith, some, rounds_is)), factors_are, k.progress) refl

  in_hand : 0 < p.rounds → InRange (factors job (s.progress.rounds - 1)).w1 (factors job (s.progress.rounds - 1)).w2
  in_hand some = in_range c z a (s.progress.rounds - 1) (omega (arith, some, rounds_is, k.ok.count))

  pub figured : Figured z p schedule route
  figured =
      record {
        room = route_long c z a s p m route k;
        scheduled =
            omega (
              arith,
              rounds_is,
              k.ok.count,
              ap length (job_schedule c),
              ap (λ (l : List ℕ). length (pairs l)) d,
            );
        w1 = λ some. omega (arith, ap (λ (f : Factors). f.w1) factors_are, (in_hand some).high1);
        w2 = λ some. omega (arith, ap (λ (f : Factors). f.w2) factors_are, (in_hand some).high2);
      }

  cut_by :
      (t : Bool) → eqb p.rounds 0 ≡ t →
      cond t (Unfinished p.expansions) (Route (summary_in z p schedule route)) ≡ cond t (Unfinished s.progress.expansions) (Route (summary job s))
  cut_by true e = ap (λ (x : Progress). Unfinished x.expansions) k.progress
  cut_by false e = let n : p.rounds ≡ 0 → ⊥ = eqb-false p.rounds 0 e in ap Route (summary_is (omega arith))

  pub cut_is : cut_in z p schedule route ≡ cut_short job s
  unfolding cut_in cut_short
  cut_is =
      cut_by (eqb p.rounds 0) refl
      ∙ ap (λ (n : ℕ). cond (eqb n 0) (Unfinished s.progress.expansions) (Route (summary job s))) rounds_is

-- ---- the answer

module _ (c : Call) (z : Size) (y : Stand) (s : Standing) (schedule route : List ℕ) (m : Words) (h : AtEnd c z y s schedule m route) where
  fits : Fits c z
  fits = record { admitted = h.admitted; vertices = h.vertices; edges = sym h.stands.carries.words.edges }

  pub end_figured : Figured z s.progress schedule route
  end_figured = figured c z fits y.state s.progress schedule route m h.schedule_is h.stands.carries

  at_step : (t : Step) → s.step ≡ t → answer_of (job_of c) y ≡ answer_at (job_of c) t y.state
  unfolding answer_of
  at_step t e = ap (λ (x : Step). answer_at (job_of c) x y.state) (sym h.stands.step ∙ e)

  pub answers_none : s.step ≡ Stuck → NoRoute s.progress.expansions ≡ answer_of (job_of c) y
  unfolding answer_at
  answers_none e = ap (λ (x : Progress). NoRoute x.expansions) h.stands.carries.progress ∙ sym (at_step Stuck e)

  -- every round of a schedule that is not empty
  pub some_round : s.step ≡ Finished → 0 < s.progress.rounds
  some_round e =
      let f : Says (job_of c) Finished y.state = subst (λ (t : Step). Says (job_of c) t y.state) (sym h.stands.step ∙ e) h.good.says in
      omega (arith, f, ap (λ (x : Progress). x.rounds) h.stands.carries.progress, (admitted c h.admitted).some)

  pub answers_route : (r : Summary) → s.step ≡ Finished → r ≡ summary_in z s.progress schedule route → Route r ≡ answer_of (job_of c) y
  unfolding answer_at
  answers_route r e f =
      ap Route (f ∙ summary_is c z fits y.state s.progress schedule route m h.schedule_is h.stands.carries (some_round e))
      ∙ sym (at_step Finished e)

  pub answers_cut : (r : Answer) (n a : ℕ) → s.step ≡ Due n a → r ≡ cut_in z s.progress schedule route → r ≡ answer_of (job_of c) y
  unfolding answer_at
  answers_cut r n a e f =
      f ∙ cut_is c z fits y.state s.progress schedule route m h.schedule_is h.stands.carries
      ∙ sym (at_step (Due n a) e)

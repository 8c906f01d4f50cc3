-- Turns up to a budget, as memory carries them.
use Prim.Native.Nat.{ℕ, ◌+◌, ◌-◌, ◌≤◌, ◌<◌}
use native.Mathlib.Numerals.{add-one}
use native.Mathlib.Omega.{arith}
use mathlib.Core.Path.{◌≡◌, refl, sym, ap, ◌∙◌, subst}
use mathlib.Core.Bool.{false, true≢false}
use mathlib.Core.List.{List}
use Rattle.search.specs.declared.Step.{Step}
use Rattle.search.specs.declared.Step.TheVariants.{Stuck, Finished, Due}
use Rattle.search.specs.Job.{Job}
use Rattle.search.specs.Rounds.{begin, run, moments}
use Rattle.search.specs.Call.{job_of}
use Rattle.search.proofs.Runs.{moments_within, run_suc, moments_suc, run_stays, moments_stay}
use Rattle.admission.specs.declared.Call.{Call as Asked}
use Rattle.workspace.specs.declared.Workspace.{Workspace}
use Rattle.planner.proofs.Carrying.{lent_same, lent_then, given_then}
use Rattle.planner.specs.declared.Standing.{Standing}
use Rattle.planner.specs.Reached.{Reaches, Advancing, Advances, Running, Runs}
use Rattle.planner.specs.Going.{is_due}

-- any other step than a turn that is due
pub other_step : (t : Step) → ((m a : ℕ) → t ≡ Due m a → ⊥) → false ≡ is_due t
other_step Stuck h = refl
other_step Finished h = refl
other_step (Due m a) h = absurd (h m a refl)

not_due : (t : Step) → is_due t ≡ false → (m a : ℕ) → t ≡ Due m a → ⊥
not_due t h m a e = true≢false (sym (ap is_due e) ∙ h)

-- ---- the loop: the search stands where i turns lead, or as many as there are

module _ (q : Asked) (space : Workspace) (route log : List ℕ) (s : Standing) where
  pub ran_none : Runs q space route log 0 s s space route log
  unfolding run moments
  ran_none = record { lent = lent_same space; runs = λ c g k. k }

  module _ (i : ℕ) (r : Standing) (space' : Workspace) (route' log' : List ℕ) (k : Runs q space route log i s r space' route' log') where
    pub advancing : Running q space route log s → i < 4294967295 → Advancing q space' route' log' r
    advancing h few =
        let job : Job = job_of h.call in
        let y : Reaches h.call (run job i (begin job)) (moments job i (begin job)) r space' route' log' = k.runs h.call h.given h.reaches in
        record {
          call = h.call;
          stand = run job i (begin job);
          turns = moments job i (begin job);
          given = given_then h.call q space space' k.lent h.given;
          reaches = y;
          more = omega (arith, y.turns, moments_within job i (begin job));
        }

    pub ran_more :
        (t : Standing) (space'' : Workspace) (route'' log'' : List ℕ) → Advances q space' route' log' r t space'' route'' log'' →
        Runs q space route log (i + 1) s t space'' route'' log''
    ran_more t space'' route'' log'' v =
        rw (add-one i)
        (record {
          lent = lent_then space space' space'' k.lent v.lent;
          runs =
              λ c g h.
              let job : Job = job_of c in
              rw (run_suc job i (begin job), moments_suc job i (begin job))
              (v.advances c (run job i (begin job)) (moments job i (begin job)) (given_then c q space space' k.lent g) (k.runs c g h));
        })

    -- as many turns as there may be
    pub ran_all : (n : ℕ) → i ≤ n → n ≤ i → Runs q space route log n s r space' route' log'
    ran_all n l g = let e : i ≡ n = omega arith in subst (λ (j : ℕ). Runs q space route log j s r space' route' log') e k

    -- no turn is due: more turns lead nowhere else
    pub ran_over : (n : ℕ) → i ≤ n → is_due r.step ≡ false → Runs q space route log n s r space' route' log'
    ran_over n l d =
        record {
          lent = k.lent;
          runs =
              λ c g h.
              let job : Job = job_of c in
              let y : Reaches c (run job i (begin job)) (moments job i (begin job)) r space' route' log' = k.runs c g h in
              let f : (m b : ℕ) → (run job i (begin job)).step ≡ Due m b → ⊥ = λ m b e. not_due r.step d m b (y.stands.step ∙ e) in
              let p : (n - i) + i ≡ n = omega arith in
              let u : run job n (begin job) ≡ run job i (begin job)
              = ap (λ (j : ℕ). run job j (begin job)) (sym p) ∙ run_stays job (begin job) i f (n - i) in
              let w : moments job n (begin job) ≡ moments job i (begin job)
              = ap (λ (j : ℕ). moments job j (begin job)) (sym p) ∙ moments_stay job (begin job) i f (n - i) in
              rw (u, w) y;
        }

-- A search from its beginning: step 1 where a round is left. What a call hands over that is not refused, or whose plan is.
use mathlib.Core.Path.{◌≡◌}
use mathlib.Core.List.{List}
use Prim.Native.Nat.{ℕ, suc, ◌-◌}
use lib.ListN.{length}
use Rattle.graph.specs.Refusal.{number_of}
use Rattle.graph.specs.declared.refusal.Cause.{Cause}
use Rattle.graph.specs.Plan
use Rattle.graph.specs.Plan.{decode, sizes}
use Rattle.graph.specs.Lists.{none, read_as, read_answer}
use Rattle.search.specs.Job.{State, Job}
use Rattle.search.specs.Rounds.{step, end_round, on_finished, settle, settled}
use Rattle.search.specs.Call.{Memory, Call, fault_in, fault_of}
use Rattle.search.specs.Outcome.{Figures, figures, answer_in, answer, memory_in, memory_after}
use Rattle.cases.specs.Cases.{HandsOver, PlanRefused}

pub settled_at :
    (job : Job) (s : State) (n : ℕ) → length job.schedule - s.progress.rounds ≡ suc n →
    settled job s ≡ on_finished (step job s) s (λ t. settle job n (end_round job t))
unfolding settled settle
settled_at job s n e = rw e

pub handed : (c : Call) (f : Figures) (m : Memory) → fault_of c ≡ none → figures (answer_in c none) ≡ f → memory_in c none ≡ m → HandsOver c f m
unfolding answer memory_after
handed c f m e a b = record { says = rw e a; leaves = rw e b }

pub plan_refused : (bytes : List ℕ) (n : Cause) (p : ℕ) → decode bytes ≡ Plan.refused n p → PlanRefused bytes n p
unfolding read_answer read_as sizes answer memory_after answer_in memory_in fault_of fault_in figures number_of
plan_refused bytes n p e =
    record { decoded = e; read = λ ts hs cs ks. rw e; called = λ c h. record { says = rw (h, e); leaves = rw (h, e) } }

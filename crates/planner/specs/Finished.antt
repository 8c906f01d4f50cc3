-- The search at its end, as its answer: for the contracts of a stage of the planner call, nothing that a reader must believe.
use Rattle.std.specs.Prelude.{ℕ, ◌-◌, ◌*◌, ◌≤◌, ◌<◌, ◌≡◌, cond, List, length, get_or, take, eqb}
use Rattle.graph.specs.Lists.{none}
use Rattle.search.specs.declared.Factors.{Factors}
use Rattle.search.specs.declared.Progress.{Progress}
use Rattle.search.specs.declared.Summary.{Summary}
use Rattle.search.specs.declared.Answer.{Answer}
use Rattle.search.specs.declared.Answer.TheVariants.{Route, Unfinished}
use Rattle.search.specs.Bounds.{max_factor}
use Rattle.search.specs.Rounds.{Stand}
use Rattle.search.specs.Call.{Call, schedule_of, pairs, fault_of, job_of}
use Rattle.search.specs.Outcome.{answer_of}
use Rattle.search.proofs.Standing.{Good}
use Rattle.graph.specs.declared.Size.{Size}
use Rattle.workspace.specs.Layout.{Words}
use Rattle.route.specs.Kept.{up_to_end}
use Rattle.planner.specs.declared.Standing.{Standing}
use Rattle.planner.specs.Carried.{Stands}

-- ---- the figures, by the record and by lent memory

-- the factors of finished round number r, counted from 1
unfoldable pub factors_in : List ℕ → ℕ → Factors
factors_in schedule r = get_or (pairs schedule) (r - 1) (record { w1 = 0; w2 = 0 })

unfoldable pub summary_in : Size → Progress → List ℕ → List ℕ → Summary
summary_in z p schedule route =
    record {
      cost = p.cost;
      length = length (up_to_end (take z.vertices route));
      rounds = p.rounds;
      expansions = p.expansions;
      bound = (factors_in schedule p.rounds).w1 * (factors_in schedule p.rounds).w2;
    }

-- the budget ended a round: the first, or a later one
unfoldable pub cut_in : Size → Progress → List ℕ → List ℕ → Answer
cut_in z p schedule route = cond (eqb p.rounds 0) (Unfinished p.expansions) (Route (summary_in z p schedule route))

-- what the figures ask, where a round is finished
pub record Figured (z : Size) (p : Progress) (schedule route : List ℕ) : Type 0 where
  pub room : z.vertices ≤ length route
  pub scheduled : p.rounds ≤ length (pairs schedule)
  pub w1 : 0 < p.rounds → (factors_in schedule p.rounds).w1 ≤ max_factor
  pub w2 : 0 < p.rounds → (factors_in schedule p.rounds).w2 ≤ max_factor

-- ---- the answer

-- a call that is not refused, where its search stands at y
pub record AtEnd (c : Call) (z : Size) (y : Stand) (s : Standing) (schedule : List ℕ) (m : Words) (route : List ℕ) : Type 0 where
  pub admitted : fault_of c ≡ none
  pub vertices : z.vertices ≡ (job_of c).size
  pub schedule_is : schedule ≡ schedule_of c
  pub stands : Stands c z y s m route
  pub good : Good (job_of c) y

-- what it asks
pub record Finishing (z : Size) (s : Standing) (schedule route : List ℕ) : Type 0 where
  pub call : Call
  pub stand : Stand
  pub words : Words
  pub at_end : AtEnd call z stand s schedule words route

-- what it answers, whatever the call, the stand and the work memories are
pub record Finishes (z : Size) (s : Standing) (schedule route : List ℕ) (r : Answer) : Type 0 where
  pub finishes : (c : Call) (y : Stand) (m : Words) → AtEnd c z y s schedule m route → r ≡ answer_of (job_of c) y

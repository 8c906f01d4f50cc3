-- Instances of the guarantee: job A, job A with a barred lane, a job whose guide has no opinion at all, a blind alley that its guide goes into, and job B under another rule for whose turn it is. Proved in proofs/Instance.antt.
use Rattle.std.specs.Prelude.{ℕ, ◌*◌, ◌≤◌, ◌≡◌, List, [], ◌∷◌}
use Rattle.graph.specs.declared.Edge.{Edge}
use Rattle.graph.specs.Lists.{none}
use Rattle.search.specs.Walk.{Walk}
use Rattle.search.specs.Call.{fault_of, job_of}
use Rattle.search.specs.Outcome.{outcome, answer, memory_after}
use Rattle.search.specs.Guarantee.{Joins, Guarantee}
use Rattle.cases.specs.Cases.{job_a}
use Rattle.cases.specs.Apart.{job_b3}
use Rattle.cases.specs.Barred.{ramp_a}
use Rattle.cases.specs.Opinion.{silent_fork}
use Rattle.cases.specs.Lead.{alley}

abbrev pub edge : ℕ → ℕ → ℕ → Edge
edge tail head cost = record { tail = tail; head = head; cost = cost; class = 0 }

-- the lanes of plan A
abbrev pub edges_a : List Edge
edges_a = edge 0 1 1 ∷ edge 0 2 4 ∷ edge 1 2 2 ∷ edge 2 3 3 ∷ []

pub record Instance : Type 0 where
  -- job A is not refused, so the guarantee holds of it
  pub admitted : fault_of (job_a 100) ≡ none
  pub edges : (job_of (job_a 100)).edges ≡ edges_a
  pub guarantee : Guarantee (job_of (job_a 100)) 100 (outcome (job_a 100)) (answer (job_a 100)) (memory_after (job_a 100))
  -- and says of the kept cost, 6, and every chain from 0 to 3
  pub bounded : (r : List ℕ) (n : ℕ) → Walk edges_a 0 3 r n → 10000 * 6 ≤ 10000 * n
  -- and of the keys of its four turns, the first two in the round with both factors 2, the third the anchor's
  pub led :
      (r : List ℕ) (n : ℕ) → Walk edges_a 0 3 r n →
      (100 * 0 ≤ 200 * 200 * n) × (100 * 400 ≤ 200 * 200 * n) × (600 ≤ 100 * n) × (100 * 300 ≤ 100 * 100 * n)
  -- with lane 0→1 barred, chains are those over the other three lanes, and the kept cost is 7
  pub permitted_edges : (job_of (ramp_a 2)).edges ≡ edge 0 2 4 ∷ edge 1 2 2 ∷ edge 2 3 3 ∷ []
  pub barred : (r : List ℕ) (n : ℕ) → Joins (job_of (ramp_a 2)) r n → 7 ≤ n
  -- with a sheet made wholly of 4,294,967,295 the bound is 100, and the kept cost 47,999,900
  pub silent : (r : List ℕ) (n : ℕ) → Joins (job_of silent_fork) r n → 10000 * 47999900 ≤ 1000000 * n
  -- a guide that expands a blind alley at cost 24, where w1·w2 = 6, and the anchor's turn beside it
  pub alley_led : (r : List ℕ) (n : ℕ) → Joins (job_of (alley 24 12 100)) r n → (100 * 2400 ≤ 200 * 300 * n) × (800 ≤ 200 * n)
  -- from the guide's turns alone, in a round that is cut: no chain costs less than 4
  pub alley_cut : (r : List ℕ) (n : ℕ) → Joins (job_of (alley 24 12 2)) r n → 4 ≤ n
  -- the bound of job B where guide 3 has every turn, whose kept cost is 4
  pub any_rule : (r : List ℕ) (n : ℕ) → Joins job_b3 r n → 10000 * 4 ≤ 10000 * n

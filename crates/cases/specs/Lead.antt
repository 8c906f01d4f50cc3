-- Cases of guides kept on a lead (document 02, E9). Proved in proofs/Cases.antt.
use Rattle.std.specs.Prelude.{ℕ, ◌≡◌, List, [], ◌∷◌, ◌++◌, map, replicate}
use Rattle.search.specs.Job.{Job, factors, standard}
use Rattle.search.specs.Rounds.{Moment}
use Rattle.search.specs.Call.{Call, job_of}
use Rattle.search.specs.Outcome.{outcome}
use Rattle.search.specs.Guarantee.{round_of, key_of}
use Rattle.cases.specs.Cases.{old, job_a}

-- of a turn: heuristic, vertex, key, and W1 and W2 of its round
abbrev pub Shown : Type 0
Shown = ℕ × ℕ × ℕ × ℕ × ℕ

unfoldable pub shown : Job → Moment → Shown
shown job t = (t.choice.heuristic, t.choice.vertex, key_of job t, (factors job (round_of t)).w1, (factors job (round_of t)).w2)

abbrev pub turns_of : Call → List Shown
turns_of c = map (shown (job_of c)) (outcome c).history

-- lanes 0→1 at 0, 0→3 at this cost, 1→2 at 4, 3→4 at 1; from 0 to 2, the true costs as anchor table, and 0 in the blind alley 3, 4, where
-- the sheet has 0 too; on the way it has 13, at the start this number. Rounds with w1 = 2 and w2 = 3, and with both 1; this budget
abbrev pub alley : ℕ → ℕ → ℕ → Call
alley cost number budget =
    record {
      bytes =
          (0x05 ∷ 0x04 ∷ [])
          ++ (0x00 ∷ 0x01 ∷ 0x00 ∷ 0x00 ∷ [])
          ++ (0x00 ∷ 0x03 ∷ cost ∷ 0x00 ∷ [])
          ++ (0x01 ∷ 0x02 ∷ 0x04 ∷ 0x00 ∷ [])
          ++ (0x02 ∷ 0x04 ∷ 0x01 ∷ 0x00 ∷ []);
      start = 0;
      goal = 2;
      barred = 0;
      anchor = 4 ∷ 4 ∷ 0 ∷ 0 ∷ 0 ∷ [];
      sheets = number ∷ 13 ∷ 13 ∷ 0 ∷ 0 ∷ [];
      count = 1;
      schedule = 200 ∷ 300 ∷ 100 ∷ 100 ∷ [];
      default_schedule = standard;
      budget = budget;
      memory = record { route = replicate 5 old; log = replicate 4 old; work = replicate 28 old; wide = replicate 10 old };
    }

-- n is the cost of the cheapest chain
pub record Lead : Type 0 where
  -- job A, n = 6: two turns of the guide in the first round; the anchor's and one of the guide in the second
  pub job_A : turns_of (job_a 100) ≡ (1, 0, 0, 200, 200) ∷ (1, 2, 400, 200, 200) ∷ (0, 1, 600, 100, 100) ∷ (1, 2, 300, 100, 100) ∷ []
  -- in a round that is cut
  pub job_A_at_3 : turns_of (job_a 3) ≡ (1, 0, 0, 200, 200) ∷ (1, 2, 400, 200, 200) ∷ (0, 1, 600, 100, 100) ∷ []
  -- n = 4: the guide expands the start, and the alley at cost 24, with 100·key just W1·W2·n; the anchor vertex 1 with its key just W1·n
  pub reached : turns_of (alley 24 12 100) ≡ (1, 0, 2400, 200, 300) ∷ (1, 3, 2400, 200, 300) ∷ (0, 1, 800, 200, 300) ∷ []
  -- the first round cut before the anchor has a turn
  pub reached_at_2 : turns_of (alley 24 12 2) ≡ (1, 0, 2400, 200, 300) ∷ (1, 3, 2400, 200, 300) ∷ []
  -- with 13 on the start and the alley at 25 the guide expands neither
  pub beyond : turns_of (alley 25 13 100) ≡ (0, 0, 800, 200, 300) ∷ (0, 1, 800, 200, 300) ∷ []

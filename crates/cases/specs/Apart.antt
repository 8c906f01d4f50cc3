-- Jobs that tell document 01's rules from others that are sound too; none of its (p) cases. Proved in proofs/Cases.antt.
use Rattle.std.specs.Prelude.{ℕ, ◌≡◌, List, [], ◌∷◌, ◌++◌, map, replicate, Ok}
use Rattle.search.specs.Job.{Job, standard}
use Rattle.search.specs.Rounds.{search}
use Rattle.search.specs.Call.{Call, job_of}
use Rattle.search.specs.Outcome.{answer_of, figures, log_word}
use Rattle.search.specs.Guarantee.{with_pick}
use Rattle.cases.specs.Cases.{HandsOver, routed, unfinished_after, unset, never, old}

-- lanes 0 to 1 at 0, 1 to 2 at 3, 1 to 3 at 5, 1 to 5 at 2, 2 to 4 at 1, 3 to 4 at 1, 5 to 3 at 1, of classes 1 to 7; from 0 to 4, class 0
-- barred, which no lane has; zero anchor table, three guides
abbrev pub job_b : Call
job_b =
    record {
      bytes =
          (0x06 ∷ 0x07 ∷ [])
          ++ (0x00 ∷ 0x01 ∷ 0x00 ∷ 0x01 ∷ 0x01 ∷ 0x02 ∷ 0x03 ∷ 0x02 ∷ 0x00 ∷ 0x03 ∷ 0x05 ∷ 0x03 ∷ 0x00 ∷ 0x05 ∷ 0x02 ∷ 0x04 ∷ [])
          ++ (0x01 ∷ 0x04 ∷ 0x01 ∷ 0x05 ∷ 0x01 ∷ 0x04 ∷ 0x01 ∷ 0x06 ∷ 0x02 ∷ 0x03 ∷ 0x01 ∷ 0x07 ∷ []);
      start = 0;
      goal = 4;
      barred = 1;
      anchor = 0 ∷ 0 ∷ 0 ∷ 0 ∷ 0 ∷ 0 ∷ [];
      sheets = (0 ∷ 0 ∷ 3 ∷ 1 ∷ 0 ∷ 4 ∷ []) ++ (0 ∷ 0 ∷ 1 ∷ 0 ∷ 9 ∷ 1 ∷ []) ++ (0 ∷ 0 ∷ 9 ∷ 0 ∷ 9 ∷ 3 ∷ []);
      count = 3;
      schedule = 100 ∷ 250 ∷ 100 ∷ 100 ∷ [];
      default_schedule = standard;
      budget = 100;
      memory = record { route = replicate 6 old; log = replicate 7 old; work = replicate 40 old; wide = replicate 12 old };
    }

-- the same job, where guide 3 has every turn
abbrev pub job_b3 : Job
job_b3 = with_pick (λ s. 3) (job_of job_b)

-- lanes 0 to 1 at 3, 0 to 2 at 0, 1 to 3 at 0, 2 to 1 at 1, 3 to 4 at 2; from 0 to 4, no guides, with this allowance
abbrev pub job_c : ℕ → Call
job_c budget =
    record {
      bytes =
          (0x05 ∷ 0x05 ∷ [])
          ++ (0x00 ∷ 0x01 ∷ 0x03 ∷ 0x00 ∷ 0x00 ∷ 0x02 ∷ 0x00 ∷ 0x00 ∷ 0x01 ∷ 0x03 ∷ 0x00 ∷ 0x00 ∷ 0x01 ∷ 0x01 ∷ 0x01 ∷ 0x00 ∷ 0x01 ∷ 0x04 ∷ 0x02 ∷ 0x00 ∷ []);
      start = 0;
      goal = 4;
      barred = 0;
      anchor = 3 ∷ 2 ∷ 3 ∷ 2 ∷ 0 ∷ [];
      sheets = [];
      count = 0;
      schedule = 300 ∷ 500 ∷ 150 ∷ 100 ∷ [];
      default_schedule = standard;
      budget = budget;
      memory = record { route = replicate 6 old; log = replicate 7 old; work = replicate 32 old; wide = replicate 11 old };
    }

-- its work memory, with predecessor and marks of vertices 0 to 4
abbrev pub work_c : List ℕ → List ℕ → List ℕ → List ℕ → List ℕ → List ℕ
work_c p q r s t =
    (0 ∷ 2 ∷ 3 ∷ 4 ∷ 5 ∷ 5 ∷ [])
    ++ (1 ∷ 2 ∷ 3 ∷ 1 ∷ 4 ∷ []) ++ (3 ∷ 0 ∷ 0 ∷ 1 ∷ 2 ∷ []) ++ (0 ∷ 0 ∷ 0 ∷ 0 ∷ 0 ∷ [])
    ++ p ++ q ++ r ++ s ++ t ++ (old ∷ [])

-- its wide work memory, with their costs
abbrev pub wide_c : List ℕ → List ℕ → List ℕ → List ℕ → List ℕ → List ℕ
wide_c p q r s t = p ++ q ++ r ++ s ++ t ++ (old ∷ [])

pub record Apart : Type 0 where
  -- turns 1 to 3: guides 1, 2 and 3, in this order
  -- turn 3: equal keys of 3 and 5, the lowest is taken, its 100·key equal to W2·m
  -- turn 4: guide 1 follows the last, and has nothing within W2·m; the anchor fills its turn though guide 2 has
  -- round 1 ends: the trace 0 1 5 3 4 costs 4, and g(goal) is 6
  -- turn 5: round 2 starts with guide 1 again, who has nothing within W2·m; of the equal anchor keys of 2 and 3 the lowest is taken
  -- turn 6: its 100·key is equal to W2·m
  -- round 2 ends: 10,000·g(goal) is equal to W2·m; the trace 0 1 2 4 costs 4 too, and 0 1 5 3 4 is kept; marks stay
  -- vertex 4 has no edges: its first edge number is that of vertex 5
  pub job_B :
      HandsOver job_b (routed 4 5 2 6 10000)
      (record {
        route = 0 ∷ 1 ∷ 5 ∷ 3 ∷ 4 ∷ unset ∷ [];
        log = 65536 ∷ 131073 ∷ 196611 ∷ 5 ∷ 2 ∷ 131075 ∷ old ∷ [];
        work =
            (0 ∷ 1 ∷ 4 ∷ 5 ∷ 6 ∷ 6 ∷ 7 ∷ [])
            ++ (1 ∷ 2 ∷ 3 ∷ 5 ∷ 4 ∷ 4 ∷ 3 ∷ [])
            ++ (0 ∷ 3 ∷ 5 ∷ 2 ∷ 1 ∷ 1 ∷ 1 ∷ [])
            ++ (1 ∷ 2 ∷ 3 ∷ 4 ∷ 5 ∷ 6 ∷ 7 ∷ [])
            ++ (unset ∷ 0 ∷ []) ++ (0 ∷ 0 ∷ []) ++ (1 ∷ 2 ∷ []) ++ (5 ∷ 1 ∷ []) ++ (2 ∷ 4 ∷ []) ++ (1 ∷ 0 ∷ []);
        wide = (0 ∷ 0 ∷ []) ++ (0 ∷ 0 ∷ []) ++ (3 ∷ 3 ∷ []) ++ (3 ∷ 3 ∷ []) ++ (4 ∷ never ∷ []) ++ (2 ∷ 2 ∷ []);
      })
  -- turn 3 finds vertex 1, which has the anchor mark, at a lower cost: it is held, and the round goes on without it
  pub job_C_at_3 :
      HandsOver (job_c 3) (unfinished_after 3)
      (record {
        route = replicate 6 old;
        log = 0 ∷ 1 ∷ 2 ∷ old ∷ old ∷ old ∷ old ∷ [];
        work = work_c (unset ∷ 2 ∷ []) (2 ∷ 10 ∷ []) (0 ∷ 2 ∷ []) (1 ∷ 4 ∷ []) (unset ∷ 0 ∷ []);
        wide = wide_c (0 ∷ 0 ∷ []) (1 ∷ 3 ∷ []) (0 ∷ 0 ∷ []) (3 ∷ never ∷ []) (never ∷ never ∷ []);
      })
  -- round 1 ends: the trace 0 2 1 3 4 costs 3, and g(goal) is 5; at round 2's beginning vertex 1 is open
  pub job_C_at_4 :
      HandsOver (job_c 4) (routed 3 5 1 4 150000)
      (record {
        route = 0 ∷ 2 ∷ 1 ∷ 3 ∷ 4 ∷ old ∷ [];
        log = 0 ∷ 1 ∷ 2 ∷ 3 ∷ old ∷ old ∷ old ∷ [];
        work = work_c (unset ∷ 0 ∷ []) (2 ∷ 4 ∷ []) (0 ∷ 0 ∷ []) (1 ∷ 0 ∷ []) (3 ∷ 4 ∷ []);
        wide = wide_c (0 ∷ 0 ∷ []) (1 ∷ 3 ∷ []) (0 ∷ 0 ∷ []) (3 ∷ 3 ∷ []) (5 ∷ never ∷ []);
      })
  -- round 2 takes vertex 1 up again, then 3
  pub job_C :
      HandsOver (job_c 100) (routed 3 5 2 6 15000)
      (record {
        route = 0 ∷ 2 ∷ 1 ∷ 3 ∷ 4 ∷ old ∷ [];
        log = 0 ∷ 1 ∷ 2 ∷ 3 ∷ 1 ∷ 3 ∷ old ∷ [];
        work = work_c (unset ∷ 0 ∷ []) (2 ∷ 2 ∷ []) (0 ∷ 0 ∷ []) (1 ∷ 2 ∷ []) (3 ∷ 4 ∷ []);
        wide = wide_c (0 ∷ 0 ∷ []) (1 ∷ 1 ∷ []) (0 ∷ 0 ∷ []) (1 ∷ 1 ∷ []) (3 ∷ never ∷ []);
      })
  -- under another rule for whose turn it is, what `AnyRule` speaks of, job B has other turns
  pub guide_3 : map log_word (search job_b3 100).history ≡ 196608 ∷ 196609 ∷ 196611 ∷ 196613 ∷ 196611 ∷ 2 ∷ []
  pub guide_3_says : figures (Ok (answer_of job_b3 (search job_b3 100).final)) ≡ routed 4 5 2 6 10000

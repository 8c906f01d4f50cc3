-- Cases of guides without an opinion (document 02, E6). Proved in proofs/Cases.antt.
use Rattle.std.specs.Prelude.{ℕ, ◌≡◌, List, [], ◌∷◌, ◌++◌, map, replicate}
use Rattle.search.specs.Job.{standard}
use Rattle.search.specs.Call.{Memory, Call}
use Rattle.search.specs.Outcome.{log_word, outcome}
use Rattle.job.specs.JobA.{plan_a}
use Rattle.cases.specs.Cases.{HandsOver, routed, no_route_after, old, unset, never, with_tables, job_a, work_a, wide_a}

-- on a guide sheet: no opinion
abbrev pub unsaid : ℕ
unsaid = 4294967295

-- job A with so many guides, whose sheets these are
abbrev pub guided_a : ℕ → List ℕ → Call
guided_a count sheets = let c : Call = job_a 100 in with_tables c.anchor count sheets c.schedule c

-- where its guide has no opinion on any vertex
abbrev pub silent_a : Call
silent_a = guided_a 1 (replicate 4 unsaid)

-- memory after job A, if the anchor alone expands
abbrev pub anchor_alone : Memory
anchor_alone =
    record {
      route = 0 ∷ 1 ∷ 2 ∷ 3 ∷ old ∷ [];
      log = 0 ∷ 2 ∷ 1 ∷ 2 ∷ old ∷ [];
      work = work_a (unset ∷ 0 ∷ []) (0 ∷ 2 ∷ []) (1 ∷ 2 ∷ []) (2 ∷ 4 ∷ []);
      wide = wide_a (0 ∷ 0 ∷ []) (1 ∷ 1 ∷ []) (3 ∷ 3 ∷ []) (6 ∷ never ∷ []);
    }

-- lanes 0→1 at 16,000,000, 0→2 at 15,999,900, 1→3, 2→3 and 3→4 at 16,000,000; from 0 to 4, the true costs as anchor table, one round with
-- w1 = 1 and w2 = 100, a guide with this sheet. So dear that every key is within W2·m, whatever the number
abbrev pub dear_fork : List ℕ → Call
dear_fork sheet =
    record {
      bytes =
          (0x05 ∷ 0x05 ∷ [])
          ++ (0x00 ∷ 0x01 ∷ 0x80 ∷ 0xC8 ∷ 0xD0 ∷ 0x07 ∷ 0x00 ∷ [])
          ++ (0x00 ∷ 0x02 ∷ 0x9C ∷ 0xC7 ∷ 0xD0 ∷ 0x07 ∷ 0x00 ∷ [])
          ++ (0x01 ∷ 0x03 ∷ 0x80 ∷ 0xC8 ∷ 0xD0 ∷ 0x07 ∷ 0x00 ∷ [])
          ++ (0x01 ∷ 0x03 ∷ 0x80 ∷ 0xC8 ∷ 0xD0 ∷ 0x07 ∷ 0x00 ∷ [])
          ++ (0x01 ∷ 0x04 ∷ 0x80 ∷ 0xC8 ∷ 0xD0 ∷ 0x07 ∷ 0x00 ∷ []);
      start = 0;
      goal = 4;
      barred = 0;
      anchor = 47999900 ∷ 32000000 ∷ 32000000 ∷ 16000000 ∷ 0 ∷ [];
      sheets = sheet;
      count = 1;
      schedule = 100 ∷ 10000 ∷ [];
      default_schedule = standard;
      budget = 100;
      memory = record { route = replicate 5 old; log = replicate 4 old; work = replicate 32 old; wide = replicate 11 old };
    }

-- where its guide has no opinion on any vertex
abbrev pub silent_fork : Call
silent_fork = dear_fork (replicate 5 unsaid)

-- plan A from 1 to 0, to which no lane leads; the anchor table has 4,294,967,295 but at the goal; so many guides, whose sheets these are
abbrev pub away_a : ℕ → List ℕ → Call
away_a count sheets =
    record {
      bytes = plan_a;
      start = 1;
      goal = 0;
      barred = 0;
      anchor = 0 ∷ 4294967295 ∷ 4294967295 ∷ 4294967295 ∷ [];
      sheets = sheets;
      count = count;
      schedule = [];
      default_schedule = standard;
      budget = 100;
      memory = (job_a 100).memory;
    }

-- the log words of a call's turns, one for each, however long the log is
abbrev pub log_of : Call → List ℕ
log_of c = map log_word (outcome c).history

pub record Opinion : Type 0 where
  -- job A without any opinion: table 0 alone in the log; route and bound, and all the rest, as without guides
  pub silent : HandsOver silent_a (routed 6 4 2 4 10000) anchor_alone
  pub no_guides : HandsOver (guided_a 0 []) (routed 6 4 2 4 10000) anchor_alone
  -- so it is where the guide would have every turn if 4,294,967,295 were a number
  pub silent_fork_case :
      HandsOver silent_fork (routed 47999900 4 1 3 1000000)
      (record {
        route = 0 ∷ 2 ∷ 3 ∷ 4 ∷ unset ∷ [];
        log = 0 ∷ 2 ∷ 3 ∷ old ∷ [];
        work =
            (0 ∷ 2 ∷ 3 ∷ 4 ∷ 5 ∷ 5 ∷ [])
            ++ (1 ∷ 2 ∷ 3 ∷ 3 ∷ 4 ∷ [])
            ++ (16000000 ∷ 15999900 ∷ 16000000 ∷ 16000000 ∷ 16000000 ∷ [])
            ++ (0 ∷ 0 ∷ 0 ∷ 0 ∷ 0 ∷ [])
            ++ (unset ∷ 2 ∷ []) ++ (0 ∷ 4 ∷ []) ++ (0 ∷ 2 ∷ []) ++ (2 ∷ 2 ∷ []) ++ (3 ∷ 4 ∷ []) ++ (old ∷ []);
        wide =
            (0 ∷ 0 ∷ []) ++ (16000000 ∷ never ∷ []) ++ (15999900 ∷ 15999900 ∷ []) ++ (31999900 ∷ 31999900 ∷ [])
            ++ (47999900 ∷ never ∷ []) ++ (old ∷ []);
      })
  -- no opinion on vertex 2: in turn 2 the guide takes vertex 1; in turn 3 vertex 2 alone is open, and the anchor has it
  pub one :
      HandsOver (guided_a 1 (0 ∷ 3 ∷ unsaid ∷ 0 ∷ [])) (routed 6 4 2 3 10000)
      (record {
        route = 0 ∷ 1 ∷ 2 ∷ 3 ∷ old ∷ [];
        log = 65536 ∷ 65537 ∷ 2 ∷ old ∷ old ∷ [];
        work = work_a (unset ∷ 0 ∷ []) (0 ∷ 0 ∷ []) (1 ∷ 0 ∷ []) (2 ∷ 4 ∷ []);
        wide = wide_a (0 ∷ 0 ∷ []) (1 ∷ 1 ∷ []) (3 ∷ 3 ∷ []) (6 ∷ never ∷ []);
      })
  -- with 0 there it would have taken vertex 2
  pub would_have : log_of (guided_a 1 (0 ∷ 3 ∷ 0 ∷ 0 ∷ [])) ≡ 65536 ∷ 65538 ∷ 65537 ∷ 65538 ∷ []
  -- no opinion on the start: the anchor has turn 1; on the goal: job A's turns
  pub on_start : log_of (guided_a 1 (unsaid ∷ 9 ∷ 0 ∷ 0 ∷ [])) ≡ 0 ∷ 65538 ∷ 1 ∷ 65538 ∷ []
  pub on_goal : log_of (guided_a 1 (0 ∷ 9 ∷ 0 ∷ unsaid ∷ [])) ≡ 65536 ∷ 65538 ∷ 1 ∷ 65538 ∷ []
  -- guide 1 has no opinion at all: the anchor has its turns, not guide 2, whose own are as they were
  pub two_guides : log_of (guided_a 2 (replicate 4 unsaid ++ (0 ∷ 9 ∷ 0 ∷ 0 ∷ []))) ≡ 0 ∷ 131074 ∷ 1 ∷ 131074 ∷ []
  -- the least key is taken without vertex 2, which would have had it, as its g is lower: in turn 2 the guide takes vertex 1, the anchor would take 2
  pub least_without : log_of (dear_fork (0 ∷ 4294967294 ∷ unsaid ∷ 0 ∷ 0 ∷ [])) ≡ 65536 ∷ 65537 ∷ 65539 ∷ []
  -- no opinion on either: the anchor has turn 2. 4,294,967,294 is a number like others
  pub neither : log_of (dear_fork (0 ∷ unsaid ∷ unsaid ∷ 0 ∷ 0 ∷ [])) ≡ 65536 ∷ 2 ∷ 65539 ∷ []
  pub one_less : log_of (dear_fork (0 ∷ 4294967294 ∷ 4294967294 ∷ 0 ∷ 0 ∷ [])) ≡ 65536 ∷ 65538 ∷ 65539 ∷ []
  -- in the anchor table 4,294,967,295 is a number like others too: the anchor expands vertices 1, 2 and 3, and then there is no route
  pub anchor_number :
      HandsOver (away_a 0 []) (no_route_after 3)
      (record {
        route = replicate 5 old;
        log = 1 ∷ 2 ∷ 3 ∷ old ∷ old ∷ [];
        work = work_a (unset ∷ 0 ∷ []) (unset ∷ 2 ∷ []) (1 ∷ 2 ∷ []) (2 ∷ 2 ∷ []);
        wide = wide_a (never ∷ never ∷ []) (0 ∷ 0 ∷ []) (2 ∷ 2 ∷ []) (5 ∷ 5 ∷ []);
      })
  -- and so it is for a guide with opinions of its own
  pub anchor_number_guided : log_of (away_a 1 (0 ∷ 0 ∷ 0 ∷ 0 ∷ [])) ≡ 65537 ∷ 65538 ∷ 65539 ∷ []

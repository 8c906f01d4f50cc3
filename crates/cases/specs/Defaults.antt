-- Cases of the default schedule (document 02, E3: the site's own house schedule). Proved in proofs/Cases.antt.
use Rattle.graph.specs.declared.refusal.Cause.TheVariants as cause
use Rattle.std.specs.Prelude.{ℕ, ◌≡◌, List, [], ◌∷◌, map, replicate}
use Rattle.graph.specs.Lists.{none, fault}
use Rattle.search.specs.declared.Factors.{Factors}
use Rattle.search.specs.Job.{standard}
use Rattle.search.specs.Call.{Call, pairs, fault_of}
use Rattle.cases.specs.Cases.{HandsOver, routed, refused_at, lent, schedule_a, with_tables, job_a, after_a}
use Rattle.cases.specs.Costs.{lent_a}

-- a round with W1 = W2
abbrev pub alike : ℕ → Factors
alike w = record { w1 = w; w2 = w }

-- our six rounds
abbrev pub six_rounds : List Factors
six_rounds = map alike (500 ∷ 300 ∷ 200 ∷ 150 ∷ 120 ∷ 100 ∷ [])

-- a call with this schedule of its own, and this default schedule
abbrev pub with_schedules : List ℕ → List ℕ → Call → Call
with_schedules own default c =
    record {
      bytes = c.bytes;
      start = c.start;
      goal = c.goal;
      barred = c.barred;
      anchor = c.anchor;
      sheets = c.sheets;
      count = c.count;
      schedule = own;
      default_schedule = default;
      budget = c.budget;
      memory = c.memory;
    }

-- job A without a schedule of its own, on this default schedule
abbrev pub site_a : List ℕ → Call
site_a default = with_schedules [] default (job_a 100)

-- on it, refused with 10, lent memory as it was
abbrev pub RefusedOn : List ℕ → Type 0
RefusedOn default = HandsOver (site_a default) (refused_at 10 0) lent

pub record Defaults : Type 0 where
  -- the default schedule until a site's own is accepted: our six rounds
  pub standard_six : pairs standard ≡ six_rounds
  -- an empty schedule means the default one: on job A's two rounds it is job A; on our six it has the same turns, and six rounds
  pub default : HandsOver (site_a schedule_a) (routed 6 4 2 4 10000) after_a
  pub six : HandsOver (site_a standard) (routed 6 4 6 4 10000) after_a
  -- beside a schedule of the call's own it is not looked at, whatever it is
  pub own : (default : List ℕ) → HandsOver (with_schedules schedule_a default (job_a 100)) (routed 6 4 2 4 10000) after_a
  -- 1 and 16 rounds pass
  pub one_round : fault_of (site_a (10000 ∷ 100 ∷ [])) ≡ none
  pub sixteen_rounds : fault_of (site_a (replicate 32 100)) ≡ none
  -- 10: none, odd, 17 rounds, a factor below 100 or above 10,000, W1 or W2 rising
  pub no_round : RefusedOn []
  pub odd : RefusedOn (200 ∷ 200 ∷ 100 ∷ [])
  pub seventeen_rounds : RefusedOn (replicate 34 100)
  pub too_low : RefusedOn (200 ∷ 200 ∷ 100 ∷ 99 ∷ [])
  pub too_high : RefusedOn (10001 ∷ 200 ∷ 100 ∷ 100 ∷ [])
  pub first_rises : RefusedOn (200 ∷ 200 ∷ 201 ∷ 200 ∷ [])
  pub second_rises : RefusedOn (200 ∷ 200 ∷ 200 ∷ 201 ∷ [])
  -- after 9, an anchor table of no numbers, and before 11, one number of the wide memory too few
  pub tables_before : fault_of (with_schedules [] [] (with_tables [] 0 [] [] (job_a 100))) ≡ fault cause.Tables 0
  pub before_short : fault_of (with_schedules [] [] (lent_a 4 25 7)) ≡ fault cause.Schedule 0

-- Cases of costs up to 16,000,000, of numbers of four groups, and of both work memories (document 02, E10). Proved in proofs/Cases.antt.
use Rattle.graph.specs.declared.refusal.Cause.TheVariants as cause
use Rattle.std.specs.Prelude.{ℕ, ◌≡◌, List, [], ◌∷◌, ◌++◌, replicate, Ok}
use Rattle.graph.specs.Plan.{accepted, decode}
use Rattle.graph.specs.Lists.{none, fault, out_after}
use Rattle.search.specs.Job.{standard}
use Rattle.search.specs.Call.{Call, fault_of}
use Rattle.job.specs.JobA.{plan_a}
use Rattle.cases.specs.Cases.{HandsOver, routed, PlanRefused, old, unset, never, call_in, with_tables, anchor_a}
use Rattle.cases.specs.Barred.{written}
use Rattle.cases.specs.Instance.{edge}

-- two vertices and the lane 0→1, with these bytes of its cost
abbrev pub costing : List ℕ → List ℕ
costing cost = 0x02 ∷ 0x01 ∷ 0x00 ∷ 0x01 ∷ cost ++ (0x00 ∷ [])

-- the bytes are accepted, and are this cost
abbrev pub Passes : List ℕ → ℕ → Type 0
Passes cost n = decode (costing cost) ≡ accepted 2 (edge 0 1 n ∷ [])

-- 2,097,153 in four groups
abbrev pub four_groups : List ℕ
four_groups = 0x81 ∷ 0x80 ∷ 0x80 ∷ 0x01 ∷ []

-- job A with so many words of route and work memory, and so many numbers of the wide one
abbrev pub lent_a : ℕ → ℕ → ℕ → Call
lent_a route work wide =
    call_in (record { route = replicate route old; log = []; work = replicate work old; wide = replicate wide old }) plan_a 0 anchor_a 100

-- job A with one number of the wide memory less than it needs, this anchor table and this schedule
abbrev pub short_a : List ℕ → List ℕ → Call
short_a anchor schedule = let c : Call = lent_a 4 25 7 in with_tables anchor c.count c.sheets schedule c

-- lanes 0→1 and 1→2 at 16,000,000; from 0 to 2, zero anchor table, no guides, one round with both factors 1
abbrev pub dear : Call
dear =
    record {
      bytes = (0x03 ∷ 0x02 ∷ []) ++ (0x00 ∷ 0x01 ∷ 0x80 ∷ 0xC8 ∷ 0xD0 ∷ 0x07 ∷ 0x00 ∷ []) ++ (0x01 ∷ 0x02 ∷ 0x80 ∷ 0xC8 ∷ 0xD0 ∷ 0x07 ∷ 0x00 ∷ []);
      start = 0;
      goal = 2;
      barred = 0;
      anchor = 0 ∷ 0 ∷ 0 ∷ [];
      sheets = [];
      count = 0;
      schedule = 100 ∷ 100 ∷ [];
      default_schedule = standard;
      budget = 2;
      memory = record { route = replicate 3 old; log = replicate 2 old; work = replicate 16 old; wide = replicate 7 old };
    }

pub record Costs : Type 0 where
  -- `C1 84 3D`, 1,000,001, passes, and so does 16,000,000; 16,000,001 is 5 at its first byte
  pub above_a_million : Passes (0xC1 ∷ 0x84 ∷ 0x3D ∷ []) 1000001
  pub dearest : Passes (0x80 ∷ 0xC8 ∷ 0xD0 ∷ 0x07 ∷ []) 16000000
  pub too_dear : PlanRefused (costing (0x81 ∷ 0xC8 ∷ 0xD0 ∷ 0x07 ∷ [])) cause.Cost 4
  -- five groups are 1, and so are four that are not shortest
  pub five_groups : PlanRefused (costing (0x80 ∷ 0x80 ∷ 0x80 ∷ 0x80 ∷ 0x01 ∷ [])) cause.Number 4
  pub four_not_shortest : PlanRefused (costing (0x81 ∷ 0x80 ∷ 0x80 ∷ 0x00 ∷ [])) cause.Number 4
  -- four groups pass 1 and meet 2 as V, 3 as M, 4 as tail or head, 15 as class
  pub four_as_V : PlanRefused four_groups cause.VertexCount 0
  pub four_as_M : PlanRefused (0x02 ∷ four_groups) cause.EdgeCount 1
  pub four_as_tail : PlanRefused (0x02 ∷ 0x01 ∷ four_groups) cause.Vertex 2
  pub four_as_head : PlanRefused (0x02 ∷ 0x01 ∷ 0x00 ∷ four_groups) cause.Vertex 3
  pub four_as_class : PlanRefused (0x02 ∷ 0x01 ∷ 0x00 ∷ 0x01 ∷ 0x00 ∷ four_groups) cause.Class 5
  -- written from lists
  pub dearest_written : out_after 2 (0 ∷ []) (1 ∷ []) (16000000 ∷ []) (0 ∷ []) (replicate 9 old) (Ok 9) ≡ costing (0x80 ∷ 0xC8 ∷ 0xD0 ∷ 0x07 ∷ [])
  pub dearest_passes : written 16000000 0 ≡ none
  pub too_dear_written : written 16000001 0 ≡ fault cause.Cost 0
  -- 11: job A needs 4 words of route memory, 25 of work memory and 8 numbers of the wide one
  pub enough : fault_of (lent_a 4 25 8) ≡ none
  pub short_route : fault_of (lent_a 3 25 8) ≡ fault cause.Memory 0
  pub short_work : fault_of (lent_a 4 24 8) ≡ fault cause.Memory 0
  pub short_wide : fault_of (lent_a 4 25 7) ≡ fault cause.Memory 0
  -- 11 comes after 10, for an odd schedule, and before 12, for an anchor table that is not 0 at the goal
  pub schedule_before_short : fault_of (short_a anchor_a (200 ∷ [])) ≡ fault cause.Schedule 0
  pub short_before_anchor : fault_of (short_a (6 ∷ 5 ∷ 3 ∷ 1 ∷ []) (100 ∷ 100 ∷ [])) ≡ fault cause.Memory 0
  -- two of the dearest lanes: g and cost when last expanded in the wide memory, predecessor and marks behind the classes
  pub dear_route :
      HandsOver dear (routed 32000000 3 1 2 10000)
      (record {
        route = 0 ∷ 1 ∷ 2 ∷ [];
        log = 0 ∷ 1 ∷ [];
        work =
            (0 ∷ 1 ∷ 2 ∷ 2 ∷ []) ++ (1 ∷ 2 ∷ []) ++ (16000000 ∷ 16000000 ∷ []) ++ (0 ∷ 0 ∷ [])
            ++ (unset ∷ 2 ∷ []) ++ (0 ∷ 2 ∷ []) ++ (1 ∷ 4 ∷ []);
        wide = (0 ∷ 0 ∷ []) ++ (16000000 ∷ 16000000 ∷ []) ++ (32000000 ∷ never ∷ []) ++ (old ∷ []);
      })

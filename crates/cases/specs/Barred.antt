-- Cases of lane classes and barred classes (document 02, E1). Proved in proofs/Cases.antt.
use Rattle.graph.specs.declared.refusal.Cause.TheVariants as cause
use Rattle.std.specs.Prelude.{ℕ, ◌≡◌, List, [], ◌∷◌, replicate, Ok, Err}
use Rattle.graph.specs.Refusal.{PlanRead, refusal_of, size_of}
use Rattle.graph.specs.Lists.{class_of, read_answer, list_after, Fault, fault, write_fault, out_after}
use Rattle.search.specs.Call.{Call}
use Rattle.job.specs.JobA.{plan_with, plan_a}
use Rattle.cases.specs.Cases.{HandsOver, routed, no_route_after, refused_at, PlanRefused, old, unset, never, lent, call_on, anchor_a, work_with, wide_a}

-- job A where lane 0→1 has class 1, and this barred number
abbrev pub ramp_a : ℕ → Call
ramp_a barred = call_on (plan_with 0x01) barred anchor_a 100

-- a vertex that no walk has reached: in work memory, and in the wide one
abbrev pub unlinked : List ℕ
unlinked = unset ∷ 0 ∷ []

abbrev pub unreached : List ℕ
unreached = never ∷ never ∷ []

-- the writer's fault where one lane, of one vertex, has this cost and class
abbrev pub written : ℕ → ℕ → Fault
written cost class = write_fault 1 (0 ∷ []) (0 ∷ []) (cost ∷ []) (class ∷ [])

-- plan A, with class 1 on lane 0→1, read into lists of so many words
abbrev pub read_into : ℕ → ℕ → ℕ → ℕ → PlanRead
read_into t h c k = read_answer (plan_with 0x01) (replicate t old) (replicate h old) (replicate c old) (replicate k old)

-- its tails, heads and costs
abbrev pub tails_a : List ℕ
tails_a = 0 ∷ 0 ∷ 1 ∷ 2 ∷ []

abbrev pub heads_a : List ℕ
heads_a = 1 ∷ 2 ∷ 2 ∷ 3 ∷ []

abbrev pub costs_a : List ℕ
costs_a = 1 ∷ 4 ∷ 2 ∷ 3 ∷ []

pub record Barred : Type 0 where
  -- class 1 barred: route 0 2 3, cost 7, both rounds; lane 0→1 is in work memory and is not tried
  pub ramp :
      HandsOver (ramp_a 2) (routed 7 3 2 2 10000)
      (record {
        route = 0 ∷ 2 ∷ 3 ∷ unset ∷ old ∷ [];
        log = 65536 ∷ 65538 ∷ old ∷ old ∷ old ∷ [];
        work = work_with (1 ∷ 0 ∷ 0 ∷ 0 ∷ []) (unset ∷ 0 ∷ []) unlinked (0 ∷ 0 ∷ []) (2 ∷ 4 ∷ []);
        wide = wide_a (0 ∷ 0 ∷ []) unreached (4 ∷ 4 ∷ []) (7 ∷ never ∷ []);
      })
  -- classes 0 and 1 barred, and so every lane: no route, 1 turn
  pub all_barred :
      HandsOver (ramp_a 3) (no_route_after 1)
      (record {
        route = replicate 5 old;
        log = 65536 ∷ old ∷ old ∷ old ∷ old ∷ [];
        work = work_with (1 ∷ 0 ∷ 0 ∷ 0 ∷ []) (unset ∷ 1 ∷ []) unlinked unlinked unlinked;
        wide = wide_a (0 ∷ 0 ∷ []) unreached unreached unreached;
      })
  -- a barred lane that breaks the anchor rule: 13 at 0
  pub barred_breaks_rule : HandsOver (call_on (plan_with 0x01) 2 (7 ∷ 5 ∷ 3 ∷ 0 ∷ []) 100) (refused_at 13 0) lent
  -- a barred number above 255: 8, before 9 for an anchor table of no numbers; 255 is none
  pub barred_256 : HandsOver (call_on plan_a 256 [] 100) (refused_at 8 0) lent
  pub barred_255 : HandsOver (call_on plan_a 255 [] 100) (refused_at 9 0) lent
  -- a class above 7: 15 at its first byte; after 5 where the cost is too large too
  pub class_8 : PlanRefused (plan_with 0x08) cause.Class 5
  pub class_8_written : written 16000000 8 ≡ fault cause.Class 0
  pub cost_before_class : written 16000001 8 ≡ fault cause.Cost 0
  -- read into lists: four of M words are enough, and 11 where one is shorter; the classes, and the rest of their list as it was
  pub read_exact : read_into 4 4 4 4 ≡ Ok (size_of 4 4)
  pub read_short :
      (read_into 3 4 4 4 ≡ Err (refusal_of cause.Memory 0)) × (read_into 4 3 4 4 ≡ Err (refusal_of cause.Memory 0)) × (read_into 4 4 3 4 ≡ Err (refusal_of cause.Memory 0)) × (read_into 4 4 4 3 ≡ Err (refusal_of cause.Memory 0))
  pub classes_read : list_after class_of (plan_with 0x01) (replicate 5 old) (Ok (size_of 4 4)) ≡ 1 ∷ 0 ∷ 0 ∷ 0 ∷ old ∷ []
  -- written from lists: unequal lists are 3, and plan A's lists make its bytes
  pub classes_unequal : write_fault 4 tails_a heads_a costs_a (1 ∷ 0 ∷ 0 ∷ 0 ∷ 0 ∷ []) ≡ fault cause.EdgeCount 0
  pub bytes_written : out_after 4 tails_a heads_a costs_a (1 ∷ 0 ∷ 0 ∷ 0 ∷ []) (replicate 18 old) (Ok 18) ≡ plan_with 0x01

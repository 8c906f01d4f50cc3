-- What the job of a call is, by its arguments, and whose turn it is.
use Prim.Native.Nat.{ℕ, zero, suc, ◌≤◌}
use native.Mathlib.Omega.{arith}
use mathlib.Core.Path.{◌≡◌, refl, ap, ◌∙◌}
use mathlib.Core.List.{List, [], ◌∷◌}
use lib.ListN.{length, get_or}
use lib.Dec.{eqb, ltb}
use mir.Facts.{eqb_no, ltb_yes}
use Rattle.graph.specs.declared.refusal.Cause.{Cause}
use Rattle.graph.specs.declared.Edge.{Edge}
use Rattle.graph.specs.Plan.{Decoded, accepted, refused, decode}
use Rattle.graph.specs.Lists.{none, fault}
use Rattle.search.specs.declared.Factors.{Factors}
use Rattle.search.specs.Job.{cyclic, guides, heuristic, factors}
use Rattle.search.specs.Rounds.{first_turn, next_turn}
use Rattle.search.proofs.Tools.{cond_ind}
use Rattle.search.proofs.Admitted.{job_schedule}
use Rattle.search.specs.Call.{Call, schedule_of, pairs, tables, fault_in, fault_of, job_in, job_from, job_of}

-- whose turn it is, of n guides
pub first_few : (n : ℕ) → first_turn n ≤ n
unfolding first_turn
first_few n = cond_ind (λ (i : ℕ). i ≤ n) (eqb n 0) (λ t. omega arith) (λ t. let k : n ≡ 0 → ⊥ = eqb_no t in omega arith)

pub next_few : (n i : ℕ) → next_turn n i ≤ n
unfolding next_turn
next_few n i = cond_ind (λ (j : ℕ). j ≤ n) (ltb i n) (λ t. ltb_yes t) (λ t. first_few n)

-- whatever the plan is
module _ (c : Call) where
  by_start : (d : Decoded) → (job_from c d).start ≡ c.start
  unfolding job_from job_in
  by_start (accepted v es) = refl
  by_start (refused n p) = refl

  pub job_start : (job_of c).start ≡ c.start
  unfolding job_of
  job_start = by_start (decode c.bytes)

  by_goal : (d : Decoded) → (job_from c d).goal ≡ c.goal
  unfolding job_from job_in
  by_goal (accepted v es) = refl
  by_goal (refused n p) = refl

  pub job_goal : (job_of c).goal ≡ c.goal
  unfolding job_of
  job_goal = by_goal (decode c.bytes)

  by_pick : (d : Decoded) → (job_from c d).pick ≡ cyclic
  unfolding job_from job_in
  by_pick (accepted v es) = refl
  by_pick (refused n p) = refl

  pub job_pick : (job_of c).pick ≡ cyclic
  unfolding job_of
  job_pick = by_pick (decode c.bytes)

  by_heuristics : (d : Decoded) → (job_from c d).heuristics ≡ c.anchor ∷ tables (job_from c d).size c.count c.sheets
  unfolding job_from job_in
  by_heuristics (accepted v es) = refl
  by_heuristics (refused n p) = refl

  pub job_heuristics : (job_of c).heuristics ≡ c.anchor ∷ tables (job_of c).size c.count c.sheets
  unfolding job_of
  job_heuristics = by_heuristics (decode c.bytes)

  pub job_anchor : heuristic (job_of c) 0 ≡ c.anchor
  unfolding heuristic
  job_anchor = ap (λ (l : List (List ℕ)). get_or l 0 []) job_heuristics

  count_tables : (v n : ℕ) (l : List ℕ) → length (tables v n l) ≡ n
  unfolding tables
  count_tables v zero l = refl
  count_tables v (suc n) l = ap suc (count_tables v n _)

  pub job_guides : guides (job_of c) ≡ c.count
  unfolding guides
  job_guides =
      let a : length (job_of c).heuristics ≡ suc c.count = ap length job_heuristics ∙ ap suc (count_tables (job_of c).size c.count c.sheets) in
      omega arith

  pub job_factors : (r : ℕ) → factors (job_of c) r ≡ get_or (pairs (schedule_of c)) r (record { w1 = 0; w2 = 0 })
  unfolding factors
  job_factors r = ap (λ (l : List Factors). get_or l r (record { w1 = 0; w2 = 0 })) (job_schedule c)

-- ---- of a call that is not refused

-- its plan is accepted, and the rows of the call pass
pub record Accepted (c : Call) : Type 0 where
  pub v : ℕ
  pub es : List Edge
  pub plan : decode c.bytes ≡ accepted v es
  pub rows : fault_in c (accepted v es) ≡ none

fault≢none : {n : Cause} {p : ℕ} → fault n p ≡ none → ⊥
fault≢none h = let z : ◌≡◌ {A = ℕ} 0 1 = cc in omega arith

accepted_by : (c : Call) (d : Decoded) → decode c.bytes ≡ d → fault_in c d ≡ none → Accepted c
unfolding fault_in
accepted_by c (accepted v es) e h = record { v = v; es = es; plan = e; rows = h }
accepted_by c (refused n p) e h = absurd (fault≢none h)

pub accepts : (c : Call) → fault_of c ≡ none → Accepted c
unfolding fault_of
accepts c h = accepted_by c (decode c.bytes) refl h

module _ (c : Call) (a : Accepted c) where
  pub job_size : (job_of c).size ≡ a.v
  unfolding job_of job_from job_in
  job_size = rw a.plan

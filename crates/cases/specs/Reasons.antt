-- Cases of explanations (document 02, E8): job A where lane 0→1 has class 1. Proved in proofs/Cases.antt.
use Rattle.std.specs.Prelude.{ℕ, ◌≡◌, List, [], ◌∷◌, replicate}
use Rattle.search.specs.Call.{Call}
use Rattle.search.specs.Outcome.{Figures, figures}
use Rattle.search.specs.Reason.{Inquiry, explanation, vertices_after, edges_after}
use Rattle.job.specs.JobA.{plan_with}
use Rattle.cases.specs.Cases.{routed, no_route_after, unfinished_after, refused_at, old, call_on, anchor_a}
use Rattle.cases.specs.Barred.{ramp_a}

-- the explanation of a call, with lists of so many words
abbrev pub asked : Call → ℕ → ℕ → Inquiry
asked c v e = record { call = c; vertices = replicate v old; edges = replicate e old }

-- what is answered, how many vertices and edges are listed, and both lists then
pub record Explains (x : Inquiry) (f : Figures) (v e : ℕ) (vertices edges : List ℕ) : Type 0 where
  pub says : figures (explanation x).answer ≡ f
  pub counts : ((explanation x).vertices ≡ v) × ((explanation x).edges ≡ e)
  pub lists : (vertices_after x ≡ vertices) × (edges_after x ≡ edges)

-- refused, with lists of so many words
abbrev pub Refused : Call → ℕ → ℕ → ℕ → Type 0
Refused c v e n = Explains (asked c v e) (refused_at n 0) 0 0 (replicate v old) (replicate e old)

pub record Reasons : Type 0 where
  -- class 0 barred, which all lanes but 0→1 have: places 0 and 1, and lanes 1 and 2 of all four; lane 3 does not start there
  pub barred : Explains (asked (ramp_a 1) 5 5) (no_route_after 2) 2 2 (0 ∷ 1 ∷ old ∷ old ∷ old ∷ []) (1 ∷ 2 ∷ old ∷ old ∷ old ∷ [])
  -- every lane barred
  pub all_barred : Explains (asked (ramp_a 3) 5 5) (no_route_after 1) 1 2 (0 ∷ old ∷ old ∷ old ∷ old ∷ []) (0 ∷ 1 ∷ old ∷ old ∷ old ∷ [])
  -- none barred, and no lanes
  pub none_barred : Explains (asked (call_on (0x04 ∷ 0x00 ∷ []) 0 anchor_a 100) 4 0) (no_route_after 1) 1 0 (0 ∷ old ∷ old ∷ old ∷ []) []
  -- a route, and unfinished: nothing is listed
  pub route : Explains (asked (ramp_a 2) 5 5) (routed 7 3 2 2 10000) 0 0 (replicate 5 old) (replicate 5 old)
  pub unfinished : Explains (asked (call_on (plan_with 0x01) 1 anchor_a 1) 5 5) (unfinished_after 1) 0 0 (replicate 5 old) (replicate 5 old)
  -- V and M words are enough, one less is 11
  pub exact : Explains (asked (ramp_a 1) 4 4) (no_route_after 2) 2 2 (0 ∷ 1 ∷ old ∷ old ∷ []) (1 ∷ 2 ∷ old ∷ old ∷ [])
  pub short_vertices : Refused (ramp_a 1) 3 4 11
  pub short_edges : Refused (ramp_a 1) 4 3 11
  -- also where there is a route; before 12, and after 8 and 9
  pub short_with_route : Refused (ramp_a 2) 4 3 11
  pub before_anchor : Refused (call_on (plan_with 0x01) 1 (6 ∷ 5 ∷ 3 ∷ 1 ∷ []) 100) 4 3 11
  pub after_ends : Refused (call_on (plan_with 0x01) 256 anchor_a 100) 3 3 8
  pub after_tables : Refused (call_on (plan_with 0x01) 1 [] 100) 3 3 9

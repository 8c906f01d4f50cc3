-- Step 3's choice of the candidate, whichever heuristic has the turn, is a legal expansion.
use mathlib.Core.List.{List}
use Prim.Native.Nat.{ℕ}
use Rattle.search.specs.declared.Vertex.{Vertex}
use Rattle.search.specs.declared.Factors.{Factors}
use Rattle.search.specs.Turn.{Best, is_anchor, least, candidate, choose}
use Rattle.search.specs.Job.{Job, heuristic}
use Rattle.search.proofs.Tools.{cond_ind}
use Rattle.search.proofs.Facts.{InRange}
use Rattle.search.proofs.Least.{least_is}
use Rattle.search.proofs.Legal.{AnchorLeads, Legal}
use Rattle.search.proofs.Rule.{by_anchor, by_best}

module _ (job : Job) (f : Factors) (in_range : InRange f.w1 f.w2) (st : List Vertex) (m a : ℕ) (y : AnchorLeads job f st m a) where
  pub choose_legal : (i : ℕ) → Legal job f st m (choose f.w2 m a i (candidate i f.w1 (heuristic job i) st))
  unfolding candidate choose
  choose_legal i =
      cond_ind (λ (b : Best). Legal job f st m (choose f.w2 m a i b)) (is_anchor i) (λ t. by_anchor job f in_range st m a y)
      (λ t. by_best job f in_range st m a y i t (least i f.w1 (heuristic job i) st) (least_is i f.w1 (heuristic job i) st))

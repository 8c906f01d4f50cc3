-- Document 01's choice is a legal expansion.
use Prim.Native.Nat.{ℕ}
use Rattle.search.specs.Job.{State, Job}
use Rattle.search.specs.Rounds.{in_hand, choice}
use Rattle.search.proofs.Facts.{InRange}
use Rattle.search.proofs.Legal.{AnchorLeads, Legal}
use Rattle.search.proofs.Chosen.{choose_legal}

-- the rule of document 01 is a legal one
pub choice_legal :
    (job : Job) (s : State) → InRange (in_hand job s).w1 (in_hand job s).w2 → (m a : ℕ) → AnchorLeads job (in_hand job s) s.vertices m a →
    Legal job (in_hand job s) s.vertices m (choice job m a s)
unfolding choice
choice_legal job s r m a y = choose_legal job (in_hand job s) r s.vertices m a y (job.pick s)

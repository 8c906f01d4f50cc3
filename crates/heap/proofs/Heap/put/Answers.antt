-- `put` meets its contract.
use native.Mathlib.Omega.{arith}
use lib.ListN.{length-set}
use mathlib.Core.Path.{refl}
use Rattle.heap.specs.Words.{put}
use Rattle.heap.proofs.Laws.{safe_low, safe_high, safe_position}
use Rattle.heap.proofs.Heap.put.Goals as goal

pub invariant_of-self : goal.invariant_of-self
invariant_of-self c = record { safe = safe_low _ _ _ c.args.self.now.safe _ _ c.requires.1 (omega arith) }

pub invariant_of-self-2 : goal.invariant_of-self-2
invariant_of-self-2 c =
    record { safe = safe_high _ _ _ (safe_low _ _ _ c.args.self.now.safe _ _ c.requires.1 (omega arith)) _ _ (simp length-set c.requires.0) }

pub invariant_of-self-3 : goal.invariant_of-self-3
invariant_of-self-3 c =
    let low = safe_low _ _ _ c.args.self.now.safe _ _ c.requires.1 (omega arith) in
    record { safe = safe_position _ _ _ (safe_high _ _ _ low _ _ (simp length-set c.requires.0)) _ _ c.requires.1 }

pub returns-clause-words : goal.returns-clause-words
unfolding put
returns-clause-words c = refl

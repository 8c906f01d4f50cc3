-- `remove` meets its contract.
use mathlib.Core.Path.{◌∙◌}
use native.Mathlib.Omega.{arith}
use Rattle.heap.proofs.Laws.{safe_less, safe_position, removed_last, removed_fills}
use Rattle.heap.proofs.Heap.remove.Goals as goal

pub invariant_of-self : goal.invariant_of-self
invariant_of-self c =
    record { safe = safe_less _ _ _ _ (safe_position _ _ _ c.args.self.now.safe _ _ c.requires.1) (omega arith) }

pub place-requires : goal.place-requires
place-requires c =
    let y = safe_position _ _ _ c.args.self.now.safe _ _ c.requires.1 in
    (omega arith, rw c.entry-e.ensures (y.each _ (omega arith)))

pub returns-then-j-last-clause-words : goal.returns-then-j-last-clause-words
returns-then-j-last-clause-words c =
    let r = c.args.self.now.safe.room in
    c.place.ensures.words ∙ removed_fills _ _ _ _ _ _ c.if-j-last.true c.requires.1 (omega (arith, r)) c.entry-e.ensures

pub returns-else-j-last-clause-words : goal.returns-else-j-last-clause-words
returns-else-j-last-clause-words c = removed_last _ _ _ _ _ c.if-j-last.false

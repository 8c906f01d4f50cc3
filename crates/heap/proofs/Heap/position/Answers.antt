-- `position` meets its contract.
use borrow.Author.Tests.{eq-eqb, ne_eqb}
use mathlib.Core.Path.{refl}
use Rattle.heap.specs.Words.{pos_at, position_at}
use Rattle.heap.proofs.Heap.position.Goals as goal

pub returns-then-j : goal.returns-then-j
unfolding position_at pos_at
returns-then-j c = rw (eq-eqb _ _ c.if-j.true) refl

pub returns-else-j : goal.returns-else-j
unfolding position_at pos_at
returns-else-j c = rw (ne_eqb _ _ c.if-j.false) refl

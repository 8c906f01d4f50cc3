-- `lower` meets its contract.
use native.Mathlib.Omega.{arith}
use mathlib.Core.Path.{refl}
use Rattle.heap.proofs.Laws.{lower_none, lower_leaf, lower_down, lower_stays}
use Rattle.std.proofs.Common.{rules}
use Rattle.heap.proofs.Heap.lower.Goals as goal

pub returns-then-levels-eq0 : goal.returns-then-levels-eq0
returns-then-levels-eq0 c = (lower_none _ _ _ _ _ _ c.if-levels-eq0.true, record { less = search rules; left = λ f. absurd (f refl) })

pub returns-then-self-l : goal.returns-then-self-l
returns-then-self-l c =
    (lower_leaf _ _ _ _ _ _ c.if-levels-eq0.false c.if-self-l.true, record { less = search rules; left = λ f. absurd (f refl) })

pub returns-then-entry-e : goal.returns-then-entry-e
returns-then-entry-e c = (
  lower_down _ _ _ _ _ _ c.if-levels-eq0.false _ _ c.if-self-l.false c.child-c.ensures.0 c.entry.ensures c.if-entry-e.true,
  record { less = search rules; left = λ f. omega (arith, c.if-levels-eq0.false) },
)

pub returns-else-entry-e : goal.returns-else-entry-e
returns-else-entry-e c = (
  lower_stays _ _ _ _ _ _ c.if-levels-eq0.false _ _ c.if-self-l.false c.child-c.ensures.0 c.entry.ensures c.if-entry-e.false,
  record { less = search rules; left = λ f. absurd (f refl) },
)

-- `cheaper` meets its contract.
use mathlib.Core.Path.{refl}
use Rattle.heap.proofs.Laws.{cheaper_first, cheaper_above}
use Rattle.heap.proofs.Heap.cheaper.Goals as goal

pub returns-then-j-ne0 : goal.returns-then-j-ne0
returns-then-j-ne0 c = rw c.entry.ensures (cheaper_above _ _ _ _ c.if-j-ne0.true)

pub returns-else-j-ne0 : goal.returns-else-j-ne0
returns-else-j-ne0 c = rw c.if-j-ne0.false (cheaper_first _ _ _ _ refl)

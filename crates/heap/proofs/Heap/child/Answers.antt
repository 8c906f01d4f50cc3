-- `child` meets its contract.
use Rattle.std.proofs.Common.{rules}
use Rattle.heap.proofs.Laws.{child_second, child_first, child_alone}
use Rattle.heap.proofs.Heap.child.Goals.{else-l-self-via-then-l-self+else-entry, else-l-self-via-else-l-self}
use Rattle.heap.proofs.Heap.child.Goals as goal

pub returns-then-entry : goal.returns-then-entry
returns-then-entry c =
    (child_second _ _ _ _ c.if-l-self.true _ _ c.entry-then-l-self.ensures c.entry.ensures c.if-entry.true, search rules, search rules)

pub returns-else-l-self : goal.returns-else-l-self
returns-else-l-self c =
    elim c.else-l-self.branch [
      | else-l-self-via-then-l-self+else-entry w ↦
          (child_first _ _ _ _ w.if-l-self.true _ _ w.entry-then-l-self.ensures w.entry.ensures w.if-entry.false, search rules, search rules)
      | else-l-self-via-else-l-self w ↦ (child_alone _ _ _ _ w.if-l-self.false, search rules, search rules)
    ]

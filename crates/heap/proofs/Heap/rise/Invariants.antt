-- `rise` meets its contract.
use Rattle.std.specs.Prelude.{◌≤◌}
use Rattle.heap.specs.Methods.{Same}
use Rattle.heap.proofs.Laws.{Rising}
use Rattle.heap.proofs.Heap.rise.Given as goal

abbrev pub invariant-loop-self : goal.invariant-loop-self
invariant-loop-self l =
    Same l.initial.self l.self × (l.j ≤ l.self.count) × Rising l.self.vertices l.e l.i l.initial.self.words.now l.self.words.now l.j

abbrev pub decreases-loop-self : goal.decreases-loop-self
decreases-loop-self l = l.j

-- `vertices` meets its contract. The loop's invariant: the first vertices were written.
use lib.ListN.{take}
use Rattle.text.specs.Text.{spaced, each}
use Rattle.printing.specs.Writing.{Wrote}
use Rattle.printing.proofs.writer.Writer.vertices.Given as goal

abbrev pub invariant-loop-vertex : goal.invariant-loop-vertex
invariant-loop-vertex l = Wrote (each spaced 0 (take l.vertex-index l.list)) l.initial.self l.self

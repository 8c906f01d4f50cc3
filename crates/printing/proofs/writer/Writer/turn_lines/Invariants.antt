-- `turn_lines` meets its contract. The loop's invariant: the lines of the first i log words were written.
use lib.ListN.{take}
use Rattle.text.specs.Text.{logged_line, each}
use Rattle.printing.specs.Writing.{Wrote}
use Rattle.printing.proofs.writer.Writer.turn_lines.Given as goal

abbrev pub invariant-loop-i : goal.invariant-loop-i
invariant-loop-i l = Wrote (each logged_line 1 (take l.i l.log)) l.initial.self l.self

-- `logged_line` meets its contract: the turn's number, and the log word's heuristic and vertex, each after its word.
use Rattle.text.specs.Text.{ascii, turn_line, logged_line}
use Rattle.printing.proofs.Writing.{then_wrote}
use Rattle.printing.proofs.writer.Writer.logged_line.Goals as goal

pub returns : goal.returns
unfolding ascii turn_line logged_line
returns c =
    then_wrote (then_wrote (then_wrote c.field.ensures (rw c.from.ensures at c.field-2.ensures)) (rw c.from-2.ensures at c.field-3.ensures)) c.byte.ensures

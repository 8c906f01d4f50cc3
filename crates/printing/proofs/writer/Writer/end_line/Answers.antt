-- `end_line` meets its contract: the four figures, each after its word.
use Rattle.text.specs.Text.{ascii, end_line}
use Rattle.printing.proofs.Writing.{then_wrote}
use Rattle.printing.proofs.writer.Writer.end_line.Goals as goal

pub returns : goal.returns
unfolding ascii end_line
returns c =
    then_wrote
    (then_wrote
    (then_wrote
    (then_wrote c.field.ensures (rw c.from.ensures at c.field-2.ensures))
    (rw c.from-2.ensures at c.field-3.ensures))
    (rw c.from-3.ensures at c.field-4.ensures))
    c.byte.ensures

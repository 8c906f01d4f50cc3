-- `barred_line` meets its contract: the number, the tail, the head, the cost and the class, each after its word.
use Rattle.text.specs.Text.{ascii, barred_line}
use Rattle.printing.proofs.Writing.{then_wrote}
use Rattle.printing.proofs.writer.Writer.barred_line.Goals as goal

pub returns : goal.returns
unfolding ascii barred_line
returns c =
    then_wrote
    (then_wrote
    (then_wrote
    (then_wrote
    (then_wrote (rw c.from.ensures at c.field.ensures) (rw c.from-2.ensures at c.field-2.ensures))
    (rw c.from-3.ensures at c.field-3.ensures))
    (rw c.from-4.ensures at c.field-4.ensures))
    (rw c.from-5.ensures at c.field-5.ensures))
    c.byte.ensures

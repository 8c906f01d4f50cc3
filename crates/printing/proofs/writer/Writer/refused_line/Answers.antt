-- `refused_line` meets its contract: a number and a position, each after its word.
use Rattle.text.specs.Text.{ascii, refused_line}
use Rattle.printing.proofs.Writing.{then_wrote}
use Rattle.printing.proofs.writer.Writer.refused_line.Goals as goal

pub returns : goal.returns
unfolding ascii refused_line
returns c =
    then_wrote (then_wrote (rw c.from.ensures at c.field.ensures) c.field-2.ensures) c.byte.ensures

-- `turns_line` meets its contract: the words, and after them the turns.
use Rattle.printing.proofs.Writing.{then_wrote}
use Rattle.printing.proofs.writer.Writer.turns_line.Goals as goal

pub returns : goal.returns
returns c = then_wrote (rw c.from.ensures at c.field.ensures) c.byte.ensures

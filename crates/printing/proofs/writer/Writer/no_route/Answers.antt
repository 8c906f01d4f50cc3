-- `no_route` meets its contract: the turn lines, then the last line.
use Rattle.printing.proofs.Writing.{then_wrote}
use Rattle.printing.proofs.writer.Writer.no_route.Goals as goal

pub returns : goal.returns
returns c = then_wrote (rw c.first.ensures at c.turn_lines.ensures) c.turns_line.ensures

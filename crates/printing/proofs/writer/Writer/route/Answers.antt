-- `route` meets its contract: the turn lines, and how the text ends.
use Rattle.printing.proofs.Writing.{then_wrote}
use Rattle.printing.proofs.writer.Writer.route.Goals as goal

pub returns : goal.returns
returns c = then_wrote (rw c.first.ensures at c.turn_lines.ensures) c.route_end.ensures

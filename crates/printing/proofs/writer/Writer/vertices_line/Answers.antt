-- `vertices_line` meets its contract: the word, the vertices and a newline.
use Rattle.printing.proofs.Writing.{then_wrote}
use Rattle.printing.proofs.writer.Writer.vertices_line.Goals as goal

pub returns : goal.returns
returns c = then_wrote (then_wrote c.word.ensures c.vertices.ensures) c.byte.ensures

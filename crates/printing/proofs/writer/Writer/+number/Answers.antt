-- `number` meets its contract: one digit, or those of the number's tenth and one more.
use Rattle.std.proofs.Common.{arith}
use Rattle.text.proofs.Digits.{one_counted, front_counted, last_counted}
use Rattle.printing.proofs.Writing.{one_wrote, last_wrote}
use Rattle.printing.proofs.writer.Writer.+number.Goals.{then-value-ge10, else-value-ge10}
use Rattle.printing.proofs.writer.Writer.+number.Goals as goal

pub number-requires : goal.number-requires
number-requires t c = (omega arith, front_counted c.args.self.now.at c.args.value c.if-value-ge10.true c.requires)

pub byte-requires : goal.byte-requires
byte-requires t c = elim c.if-value-ge10.branch [
  | then-value-ge10 w ↦ rw w.self-is (last_counted c.args.self.now.at c.args.value w.if-value-ge10.true w.number.ensures.put c.requires)
  | else-value-ge10 w ↦ rw w.self-is (one_counted c.args.self.now.at c.args.value w.if-value-ge10.false c.requires)
]

pub returns : goal.returns
returns t c = elim c.if-value-ge10.branch [
  | then-value-ge10 w ↦ last_wrote w.if-value-ge10.true w.number.ensures (rw w.self-is at c.byte.ensures)
  | else-value-ge10 w ↦ one_wrote w.if-value-ge10.false (rw w.self-is at c.byte.ensures)
]

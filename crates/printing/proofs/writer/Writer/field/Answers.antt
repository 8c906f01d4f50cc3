-- `field` meets its contract: the word, and after it the number.
use native.Mathlib.Omega.{arith}
use lib.ListN.{length-append}
use Rattle.text.specs.Text.{field}
use Rattle.printing.proofs.Writing.{then_wrote}
use Rattle.printing.proofs.writer.Writer.field.Goals as goal

pub word-requires : goal.word-requires
unfolding field
word-requires c = omega (arith, simp length-append at c.requires)

pub number-requires : goal.number-requires
unfolding field
number-requires c = omega (arith, simp length-append at c.requires)

pub returns : goal.returns
unfolding field
returns c = then_wrote c.word.ensures c.number.ensures

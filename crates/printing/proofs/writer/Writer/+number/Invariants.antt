-- The value falls with each call.
use Rattle.printing.proofs.writer.Writer.+number.Given as goal

abbrev pub decreases-number : goal.decreases-number
decreases-number l = l.value

-- `word` meets its contract. The loop's invariant: the word's first bytes were put.
use lib.ListN.{take}
use Rattle.printing.specs.Writing.{Wrote}
use Rattle.printing.proofs.writer.Writer.word.Given as goal

abbrev pub invariant-loop-byte : goal.invariant-loop-byte
invariant-loop-byte l = Wrote (take l.byte-index l.word) l.initial.self l.self

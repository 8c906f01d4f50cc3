-- `byte` meets its contract: a store past the end is no store.
use Rattle.std.proofs.Common.{rules, sym, refl}
use lib.Seq.{set_out}
use Rattle.text.specs.Laid.{laid}
use Rattle.printing.proofs.writer.Writer.byte.Goals.{then-self, else-self}
use Rattle.printing.proofs.writer.Writer.byte.Goals as goal

pub returns : goal.returns
unfolding laid
returns c = elim c.if-self.branch [
  | then-self w ↦ rw w.self-is (record { put = record { next = search rules; memory = refl }; same = refl })
  | else-self w ↦ rw w.self-is (record { put = record { next = search rules; memory = sym (set_out _ _ _ w.if-self.false) }; same = refl })
]

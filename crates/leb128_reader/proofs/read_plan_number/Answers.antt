-- `read_plan_number` meets its contract: its word is the one at the offset, whichever bytes it was made of.
use native.Mathlib.Omega.{arith}
use mathlib.Core.Path.{◌∙◌}
use Rattle.leb128.specs.Number.{Bytes}
use Rattle.leb128_reader.proofs.Groups.{none}
use Rattle.leb128_reader.proofs.read_plan_number.Goals as goal
use Rattle.leb128_reader.proofs.read_plan_number.Goals.{then-at-full, else-at-full+else-bytes-at}

pub returns-then-bytes-at : goal.returns-then-bytes-at
returns-then-bytes-at c = none _ _ c.if-bytes-at.true

pub number_in-requires : goal.number_in-requires
number_in-requires c =
    elim c.if-at-full.branch [ then-at-full w ↦ omega arith | else-at-full+else-bytes-at w ↦ omega arith ]

pub returns : goal.returns
unfolding Bytes
returns c =
    elim c.if-at-full.branch [
      | then-at-full w ↦
          c.number_in.ensures c.args.bytes.now (λ i. omega (arith, c.type_inv.bytes i)) (omega arith) (w.word-is ∙ w.four_at-word.ensures)
      | else-at-full+else-bytes-at w ↦
          c.number_in.ensures c.args.bytes.now (λ i. omega (arith, c.type_inv.bytes i)) w.if-bytes-at.false (w.word-is ∙ w.left_at-word.ensures)
    ]

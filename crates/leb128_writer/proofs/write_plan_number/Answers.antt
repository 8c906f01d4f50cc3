-- `write_plan_number` meets its contract: the number has a form and there is room for it, or nothing is written.
use native.Mathlib.Omega.{arith}
use mathlib.Core.Path.{refl, ap, ◌∙◌}
use Rattle.leb128.specs.Number.{plan_groups, encode}
use Rattle.std.specs.Prelude.{Ok}
use Rattle.leb128.proofs.Laws.{encode_some}
use Rattle.leb128.proofs.Write.{too_large, no_room, room}
use Rattle.leb128_writer.proofs.write_plan_number.Goals as goal

pub returns-then-value-ge268435456 : goal.returns-then-value-ge268435456
unfolding plan_groups
returns-then-value-ge268435456 c =
    let e = too_large 4 _ _ _ (omega (arith, c.if-value-ge268435456.true)) in
    record { value = e.0; out_after = e.1 }

pub returns-then-saturating_sub-plan_number_len : goal.returns-then-saturating_sub-plan_number_len
unfolding plan_groups
returns-then-saturating_sub-plan_number_len c =
    let e = no_room 4 _ _ _ c.if-value-ge268435456.false (omega (arith, c.plan_number_len.ensures, c.saturating_sub.ensures, c.if-saturating_sub-plan_number_len.true)) in
    record { value = e.0; out_after = e.1 }

pub lay_plan_number-requires : goal.lay_plan_number-requires
unfolding plan_groups
lay_plan_number-requires c = (
  c.if-value-ge268435456.false,
  omega (arith, c.plan_number_len.ensures, encode_some 4 c.args.value (omega arith)),
)

pub returns : goal.returns
unfolding plan_groups
returns c =
    let x = c.args in
    let l = c.lay_plan_number.ensures in
    let r = room 4 x.out.now x.at x.value (encode 4 x.value) refl c.if-value-ge268435456.false (omega (arith, c.plan_number_len.ensures, encode_some 4 x.value (omega arith))) in
    record { value = ap Ok l.value ∙ r.0; out_after = l.out_after ∙ r.1 }

-- `plan_number_len` meets its contract: the number's size says how many groups it has.
use native.Mathlib.Omega.{arith}
use mathlib.Core.Path.{sym, ap}
use lib.ListN.{length}
use Rattle.leb128.specs.Number.{plan_groups}
use Rattle.leb128.proofs.Laws.{encode_last, encode_few, encode_at_most, encode_at_least}
use Rattle.leb128_writer.proofs.plan_number_len.Goals as goal

pub returns-then-value-lt128 : goal.returns-then-value-lt128
unfolding plan_groups
returns-then-value-lt128 c = sym (ap length (encode_last 3 c.args.value c.if-value-lt128.true))

pub returns-then-value-lt16384 : goal.returns-then-value-lt16384
unfolding plan_groups
returns-then-value-lt16384 c = omega (arith, encode_at_least 1 4 c.args.value (omega arith) c.if-value-lt128.false, encode_at_most 1 4 c.args.value c.if-value-lt16384.true)

pub returns-then-value-lt2097152 : goal.returns-then-value-lt2097152
unfolding plan_groups
returns-then-value-lt2097152 c = omega (arith, encode_at_least 2 4 c.args.value (omega arith) c.if-value-lt16384.false, encode_at_most 2 4 c.args.value c.if-value-lt2097152.true)

pub returns-else-value-lt2097152 : goal.returns-else-value-lt2097152
unfolding plan_groups
returns-else-value-lt2097152 c = omega (arith, encode_at_least 3 4 c.args.value (omega arith) c.if-value-lt2097152.false, encode_few 4 c.args.value)

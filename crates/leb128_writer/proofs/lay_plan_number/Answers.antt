-- `lay_plan_number` meets its contract: by the number's size, its form is written.
use Prim.Native.Nat.{ℕ, ◌+◌}
use native.Mathlib.Omega.{arith}
use native.Mathlib.Numerals.{add-one}
use mathlib.Core.Path.{sym, ap}
use mathlib.Core.List.{List}
use lib.ListN.{length, length-set}
use lib.Seq.{sets}
use Rattle.leb128.specs.Number.{plan_groups}
use Rattle.leb128.proofs.Laws.{encode_last, encode_some, encode_at_least}
use Rattle.leb128.proofs.Write.{add_two, add_three, encode_two, encode_three, encode_four}
use Rattle.leb128_writer.proofs.lay_plan_number.Goals as goal

pub bounds-out-at : goal.bounds-out-at
unfolding plan_groups
bounds-out-at c = omega (arith, encode_some 4 c.args.value (omega arith))

pub returns-then-value-lt128 : goal.returns-then-value-lt128
unfolding plan_groups
returns-then-value-lt128 c =
    let x = c.args in
    let e = encode_last 3 x.value c.if-value-lt128.true in
    record { value = sym (ap (λ (g : List ℕ). x.at + length g) e); out_after = sym (ap (sets x.out.now x.at) e) }

pub bounds-out-at-2 : goal.bounds-out-at-2
unfolding plan_groups
bounds-out-at-2 c = omega (arith, encode_some 4 c.args.value (omega arith))

pub bounds-out-at-then-value-lt16384 : goal.bounds-out-at-then-value-lt16384
unfolding plan_groups
bounds-out-at-then-value-lt16384 c = simp length-set (omega (arith, encode_at_least 1 4 c.args.value (omega arith) c.if-value-lt128.false))

pub returns-then-value-lt16384 : goal.returns-then-value-lt16384
unfolding plan_groups
returns-then-value-lt16384 c =
    let x = c.args in
    let e = encode_two 2 x.value c.if-value-lt128.false c.if-value-lt16384.true in
    record { value = sym (ap (λ (g : List ℕ). x.at + length g) e); out_after = simp add-one (sym (ap (sets x.out.now x.at) e)) }

pub bounds-out-at-3 : goal.bounds-out-at-3
unfolding plan_groups
bounds-out-at-3 c = simp length-set (omega (arith, encode_at_least 1 4 c.args.value (omega arith) c.if-value-lt128.false))

pub bounds-out-at-then-value-lt2097152 : goal.bounds-out-at-then-value-lt2097152
unfolding plan_groups
bounds-out-at-then-value-lt2097152 c = simp length-set (omega (arith, encode_at_least 2 4 c.args.value (omega arith) c.if-value-lt16384.false))

pub returns-then-value-lt2097152 : goal.returns-then-value-lt2097152
unfolding plan_groups
returns-then-value-lt2097152 c =
    let x = c.args in
    let e = encode_three 1 x.value c.if-value-lt16384.false c.if-value-lt2097152.true in
    record { value = sym (ap (λ (g : List ℕ). x.at + length g) e); out_after = simp (add-one, add_two) (sym (ap (sets x.out.now x.at) e)) }

pub bounds-out-at-4 : goal.bounds-out-at-4
unfolding plan_groups
bounds-out-at-4 c = simp length-set (omega (arith, encode_at_least 2 4 c.args.value (omega arith) c.if-value-lt16384.false))

pub overflow_cast-out-5 : goal.overflow_cast-out-5
unfolding plan_groups
overflow_cast-out-5 c = omega (arith, c.requires.0)

pub bounds-out-at-5 : goal.bounds-out-at-5
unfolding plan_groups
bounds-out-at-5 c = simp length-set (omega (arith, encode_at_least 3 4 c.args.value (omega arith) c.if-value-lt2097152.false))

pub returns : goal.returns
unfolding plan_groups
returns c =
    let x = c.args in
    let e = encode_four 0 x.value c.if-value-lt2097152.false c.requires.0 in
    record { value = sym (ap (λ (g : List ℕ). x.at + length g) e); out_after = simp (add-one, add_two, add_three) (sym (ap (sets x.out.now x.at) e)) }

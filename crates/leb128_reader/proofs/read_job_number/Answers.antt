-- `read_job_number` meets its contract: a group that ends the number, or one before a number of up to four.
use Prim.Native.Nat.{◌+◌}
use native.Mathlib.Omega.{arith}
use mathlib.Core.Path.{sym, ◌∙◌}
use Rattle.leb128.specs.Number.{plan_groups, job_groups}
use Rattle.leb128.proofs.ReadAt.{lost_end, found_last, answer_value, answer_lost, rest_refused, rest_zero, rest_value, rest_wide}
use Rattle.leb128_reader.proofs.read_job_number.Goals as goal

pub returns-then-bytes-at : goal.returns-then-bytes-at
unfolding plan_groups job_groups
returns-then-bytes-at c = answer_lost 5 _ _ (lost_end 5 _ _ c.if-bytes-at.true)

pub returns-then-a-lt128 : goal.returns-then-a-lt128
unfolding plan_groups job_groups
returns-then-a-lt128 c =
    let a = c.args in
    let f = found_last 4 a.bytes.now a.at c.if-bytes-at.false c.if-a-lt128.true in
    rw c.from.ensures (answer_value 5 a.bytes.now a.at _ 1 f (omega arith))

pub returns-in_default : goal.returns-in_default
unfolding plan_groups job_groups
returns-in_default c =
    let a = c.args in
    let e = sym c.read_plan_number.ensures ∙ c.in_default.is in
    rest_refused 4 a.bytes.now a.at (a.at + 1) (omega arith) c.if-bytes-at.false c.if-a-lt128.false _ e

pub returns-then-rest-eq0 : goal.returns-then-rest-eq0
unfolding plan_groups job_groups
returns-then-rest-eq0 c =
    let a = c.args in
    let e = sym c.read_plan_number.ensures ∙ c.in-Ok.is in
    rest_zero 4 a.bytes.now a.at (a.at + 1) (omega arith) c.if-bytes-at.false c.if-a-lt128.false _ _ e c.if-rest-eq0.true

pub returns-then-value-lt4294967296 : goal.returns-then-value-lt4294967296
unfolding plan_groups job_groups
returns-then-value-lt4294967296 c =
    let a = c.args in
    let e = sym c.read_plan_number.ensures ∙ c.in-Ok.is in
    rw c.from-2.ensures (rw c.from-3.ensures (rest_value 4 a.bytes.now a.at (a.at + 1) (omega arith) c.if-bytes-at.false c.if-a-lt128.false _ _ e c.if-rest-eq0.false (omega (arith, c.if-value-lt4294967296.true, c.from-2.ensures, c.from-3.ensures))))

pub returns-else-value-lt4294967296 : goal.returns-else-value-lt4294967296
unfolding plan_groups job_groups
returns-else-value-lt4294967296 c =
    let a = c.args in
    let e = sym c.read_plan_number.ensures ∙ c.in-Ok.is in
    rest_wide 4 a.bytes.now a.at (a.at + 1) (omega arith) c.if-bytes-at.false c.if-a-lt128.false _ _ e c.if-rest-eq0.false (omega (arith, c.if-value-lt4294967296.false, c.from-2.ensures, c.from-3.ensures))

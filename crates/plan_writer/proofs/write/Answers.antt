-- `write` meets its contract: the edges were measured, and are laid where there is room.
use mathlib.Core.Path.{sym, ap, ◌∙◌}
use Rattle.std.specs.Prelude.{Err}
use Rattle.plan_writer.proofs.Writer.{plan_fits, answer_count, answer_short}
use Rattle.plan_writer.proofs.write.Goals as goal

pub returns-then-out-size-clause-value : goal.returns-then-out-size-clause-value
returns-then-out-size-clause-value c =
    ap Err c.at.ensures
    ∙ answer_short _ _ _ _ _ _ _ c.in_ok-plan.ensures _ (sym c.measure.ensures ∙ c.in_ok-size.was) c.if-out-size.true

pub lay-requires : goal.lay-requires
lay-requires c =
    plan_fits _ _ _ _ _ _ _ c.in_ok-plan.ensures _ (sym c.measure.ensures ∙ c.in_ok-size.was) c.if-out-size.false

pub returns-clause-value : goal.returns-clause-value
returns-clause-value c =
    answer_count _ _ _ _ _ _ _ c.in_ok-plan.ensures _ (sym c.measure.ensures ∙ c.in_ok-size.was) c.if-out-size.false

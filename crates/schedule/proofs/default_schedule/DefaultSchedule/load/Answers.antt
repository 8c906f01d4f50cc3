-- `load` meets its contract: the sheet is tested, then laid.
use mathlib.Core.Path.{sym, ◌∙◌}
use Rattle.schedule.specs.DefaultSchedule.{loading}
use Rattle.schedule.proofs.DefaultSchedule.{sheet_short}
use Rattle.std.proofs.Common.{rules}
use Rattle.schedule.proofs.default_schedule.DefaultSchedule.load.Goals as goal

pub returns-then-schedule_fails : goal.returns-then-schedule_fails
unfolding loading
returns-then-schedule_fails c = rw (sym c.schedule_fails.ensures ∙ c.if-schedule_fails.true)

pub laid-numbers-requires : goal.laid-numbers-requires
laid-numbers-requires c = sheet_short _ (sym c.schedule_fails.ensures ∙ c.if-schedule_fails.false)

pub overflow_cast-count : goal.overflow_cast-count
overflow_cast-count c =
    let short = sheet_short _ (sym c.schedule_fails.ensures ∙ c.if-schedule_fails.false) in search rules

pub returns : goal.returns
unfolding loading
returns c = rw (sym c.schedule_fails.ensures ∙ c.if-schedule_fails.false, c.laid-numbers.ensures)

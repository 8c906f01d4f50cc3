-- `call_verdict` meets its contract: its rows downwards.
use Rattle.std.proofs.Common.{sym, ◌∙◌}
use Rattle.search.specs.Call.{row, first}
use Rattle.admission.specs.Verdict.{verdict}
use Rattle.admission.proofs.Verdicts.{by_rows}
use Rattle.admission.proofs.rows.call_verdict.Goals as goal

pub returns-then-ends_fail : goal.returns-then-ends_fail
unfolding verdict first row
returns-then-ends_fail c =
    by_rows _ _ _ _ c.requires.header_is _ c.requires.edges_are _ (rw (sym c.ends_fail.ensures ∙ c.if-ends_fail.true) cc)

pub returns-then-tables_fail : goal.returns-then-tables_fail
unfolding verdict first row
returns-then-tables_fail c =
    by_rows _ _ _ _ c.requires.header_is _ c.requires.edges_are _
    (rw (sym c.ends_fail.ensures ∙ c.if-ends_fail.false, sym c.tables_fail.ensures ∙ c.if-tables_fail.true) cc)

pub returns-then-schedule_fails : goal.returns-then-schedule_fails
unfolding verdict first row
returns-then-schedule_fails c =
    by_rows _ _ _ _ c.requires.header_is _ c.requires.edges_are _
    (rw (
      sym c.ends_fail.ensures ∙ c.if-ends_fail.false,
      sym c.tables_fail.ensures ∙ c.if-tables_fail.false,
      sym c.taken.ensures,
      sym c.schedule_fails.ensures ∙ c.if-schedule_fails.true,
    ) cc)

pub returns-then-memory_fails : goal.returns-then-memory_fails
unfolding verdict first row
returns-then-memory_fails c =
    by_rows _ _ _ _ c.requires.header_is _ c.requires.edges_are _
    (rw (
      sym c.ends_fail.ensures ∙ c.if-ends_fail.false,
      sym c.tables_fail.ensures ∙ c.if-tables_fail.false,
      sym c.taken.ensures,
      sym c.schedule_fails.ensures ∙ c.if-schedule_fails.false,
      sym c.memory_fails.ensures ∙ c.if-memory_fails.true,
    ) cc)

pub returns : goal.returns
unfolding verdict first row
returns c =
    by_rows _ _ _ _ c.requires.header_is _ c.requires.edges_are _
    (rw (
      sym c.ends_fail.ensures ∙ c.if-ends_fail.false,
      sym c.tables_fail.ensures ∙ c.if-tables_fail.false,
      sym c.taken.ensures,
      sym c.schedule_fails.ensures ∙ c.if-schedule_fails.false,
      sym c.memory_fails.ensures ∙ c.if-memory_fails.false,
    ) c.anchor_verdict.ensures)

-- `put_answer` meets its contract: a search's text, or the refusal's line alone.
use Rattle.text.specs.Text.{each, turn_lines}
use Rattle.job.specs.Printed.{turns, last_lines, printed}
use Rattle.printing.specs.Shown.{figures_by}
use Rattle.printing.proofs.put_answer.Goals as goal

pub returns-in-Ok : goal.returns-in-Ok
unfolding figures_by
returns-in-Ok g c = rw c.in-Ok.is c.put_search.ensures

pub returns-in-Err : goal.returns-in-Err
unfolding figures_by printed turns last_lines turn_lines each
returns-in-Err g c = rw c.in-Err.is (rw c.show-number.ensures at c.put_refused.ensures)

-- `put_explanation` meets its contract: what is not refused, or the refusal's line alone.
use mathlib.Core.List.{append-nil}
use Rattle.job.specs.Printed.{last_lines}
use Rattle.job.specs.Explained.{reason_lines}
use Rattle.printing.specs.Shown.{figures_by}
use Rattle.printing.proofs.put_explanation.Goals as goal

pub returns-in-Err : goal.returns-in-Err
unfolding figures_by last_lines reason_lines
returns-in-Err g c = rw (c.in-Err.is, append-nil) (rw c.show-number.ensures at c.put_refused.ensures)

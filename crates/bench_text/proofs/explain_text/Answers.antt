-- `explain_text` meets its contract: the job is read, and explained or refused.
use mathlib.Core.Path.{sym, ◌∙◌}
use Rattle.job.specs.Explained.{explained_as}
use Rattle.job_reader.proofs.ButEdges.{same_explained}
use Rattle.bench_text.proofs.explain_text.Goals as goal

pub explain_job-requires : goal.explain_job-requires
explain_job-requires c = sym c.read_but_edges.ensures ∙ c.in-Ok.is

pub returns-in-Ok : goal.returns-in-Ok
unfolding explained_as
returns-in-Ok c = rw (same_explained _, sym c.read_but_edges.ensures ∙ c.in-Ok.is) c.explain_job.ensures

pub returns-in-Err : goal.returns-in-Err
unfolding explained_as
returns-in-Err c = rw (same_explained _, sym c.read_but_edges.ensures ∙ c.in-Err.is) (rw c.number.ensures at c.put_refused.ensures)

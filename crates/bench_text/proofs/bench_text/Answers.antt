-- `bench_text` meets its contract: the job is read, and asked or refused; the log holds every turn.
use Prim.Native.Nat.{ℕ}
use mathlib.Core.Path.{sym, ◌∙◌}
use mathlib.Core.List.{List}
use Rattle.job.specs.Printed.{text_of, bench_text}
use Rattle.job.specs.Texts.{Texts, Prints}
use Rattle.job.proofs.Turns.{every_turn}
use Rattle.job_reader.proofs.ButEdges.{same_text}
use Rattle.bench_text.proofs.bench_text.Goals as goal

printed : {s old : List ℕ} {r : ℕ} {new : List ℕ} → Texts (bench_text s) old r new → Prints s old r new
printed {s = s} t = record { texts = t; every_turn = every_turn s }

pub plan_job-requires : goal.plan_job-requires
plan_job-requires c = sym c.read_but_edges.ensures ∙ c.in-Ok.is

pub returns-in-Ok : goal.returns-in-Ok
unfolding text_of
returns-in-Ok c = printed (rw (same_text _, sym c.read_but_edges.ensures ∙ c.in-Ok.is) c.plan_job.ensures)

pub returns-in-Err : goal.returns-in-Err
unfolding text_of
returns-in-Err c = printed (rw (same_text _, sym c.read_but_edges.ensures ∙ c.in-Err.is) (rw c.number.ensures at c.put_refused.ensures))

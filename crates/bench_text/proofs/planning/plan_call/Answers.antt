-- `plan_call` meets its contract: the call, then its text.
use mathlib.Core.Path.{ap}
use Rattle.search.specs.Call.{Memory}
use Rattle.job.specs.Asked.{zeros}
use Rattle.printing.proofs.Answered.{figures_shown}
use Rattle.bench_text.proofs.Calls.{handed_text}
use Rattle.bench_text.proofs.planning.plan_call.Goals as goal

pub returns : goal.returns
unfolding zeros
returns c =
    let h = c.plan-answer.ensures in
    handed_text _ _ _ _ h.answers (ap (λ (m : Memory). m.route) h.memory_is) (ap (λ (m : Memory). m.log) h.memory_is)
    (rw (figures_shown c.plan-answer.result) at c.put_answer.ensures)

-- `explain_call` meets its contract: the explanation, then its text.
use Rattle.job.specs.Asked.{zeros}
use Rattle.job.specs.Explained.{inquiry_asked}
use Rattle.bench_text.proofs.Reasons.{explainable, explained_text}
use Rattle.std.proofs.Common.{rules}
use Rattle.bench_text.proofs.explaining.explain_call.Goals as goal

pub put_explanation-requires : goal.put_explanation-requires
put_explanation-requires c =
    explainable _ _ c.size-size.ensures _ _ _ _ c.explain-explanation.ensures (search rules) (search rules) (search rules)

pub returns : goal.returns
unfolding inquiry_asked zeros
returns c = explained_text _ _ c.size-size.ensures _ _ _ _ c.explain-explanation.ensures c.put_explanation.ensures

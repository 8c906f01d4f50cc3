-- `decide` meets its contract: the plan, then the rows.
use Rattle.std.proofs.Common.{sym, ◌∙◌, arith}
use Rattle.admission.proofs.Verdicts.{header_refused, edges_refused}
use Rattle.admission.proofs.decide.Goals as goal

pub returns-in_err-size : goal.returns-in_err-size
returns-in_err-size c = header_refused _ _ _ (sym c.header.ensures ∙ c.in_err-size.was) _ (grind arith)

pub returns-in_err-broken : goal.returns-in_err-broken
returns-in_err-broken c =
    edges_refused _ _ _ _ _ (sym c.header.ensures ∙ c.in_ok-size.was) (sym c.read_edges.ensures ∙ c.in_err-broken.was) _ (grind arith)

-- `candidate` meets its contract.
use mathlib.Core.Path.{sym}
use Rattle.turn.proofs.Scanning.{within_nobody}
use Rattle.turn.proofs.Keys.{candidate_none, candidate_part}
use Rattle.turn.proofs.candidate.Goals as goal

pub returns-then-i-eq0 : goal.returns-then-i-eq0
returns-then-i-eq0 c =
    (sym (candidate_none _ _ c.args.i _ c.if-i-eq0.true), within_nobody c.args.vertices.size.vertices)

pub returns : goal.returns
returns c =
    (candidate_part _ _ c.args.vertices.size.vertices c.args.i _ _ c.if-i-eq0.false c.least.ensures.0, c.least.ensures.1)

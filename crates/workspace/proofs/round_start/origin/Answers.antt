-- `origin` meets its contract.
use Rattle.search.specs.Job.{fresh, origin, unreached, no_pred}
use Rattle.workspace.proofs.round_start.origin.Goals as goal

pub returns : goal.returns
unfolding origin fresh unreached no_pred
returns c = rw c.fresh.ensures

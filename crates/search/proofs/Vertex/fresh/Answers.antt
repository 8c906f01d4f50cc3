-- `Vertex::fresh` meets its contract.
use Rattle.std.proofs.Common.{rules}
use Rattle.search.specs.Job.{fresh, unreached, no_pred}
use Rattle.search.proofs.Vertex.fresh.Goals as goal

pub returns : goal.returns
unfolding fresh unreached no_pred
returns c = search rules

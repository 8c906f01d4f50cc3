-- `reopened` meets its contract.
use Rattle.search.specs.Rounds.{reopened}
use Rattle.std.proofs.Common.{rules}
use Rattle.workspace.proofs.round_start.reopened.Goals as goal

pub returns : goal.returns
unfolding reopened
returns c = search rules

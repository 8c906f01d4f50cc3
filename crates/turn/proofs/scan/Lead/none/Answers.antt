-- `Lead::none` meets its contract.
use Rattle.turn.specs.Lead.{best_of}
use Rattle.std.proofs.Common.{rules}
use Rattle.turn.proofs.scan.Lead.none.Goals as goal

pub returns : goal.returns
unfolding best_of
returns c = search rules

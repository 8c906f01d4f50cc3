-- `base` meets its contract.
use Rattle.workspace.specs.Layout.{base}
use Rattle.std.proofs.Common.{rules}
use Rattle.workspace.proofs.words.base.Goals as goal

pub returns : goal.returns
unfolding base
returns c = search rules

-- `entry` meets its contract.
use Rattle.heap.specs.Words.{entry_at}
use Rattle.std.proofs.Common.{rules}
use Rattle.heap.proofs.entry.Goals as goal

pub returns : goal.returns
unfolding entry_at
returns c = search rules

-- `entry_for` meets its contract.
use mathlib.Core.Path.{refl}
use Rattle.search.specs.Turn.{key}
use Rattle.queue.proofs.Queues.entry_for.Goals as goal

pub returns : goal.returns
unfolding key
returns c = rw (c.from.ensures, c.from-2.ensures, c.from-3.ensures) refl

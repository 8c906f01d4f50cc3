-- `clear` meets its contract.
use mathlib.Core.Path.{refl}
use Rattle.queue.specs.Parts.{part_of, with_part}
use Rattle.queue.proofs.Pieces.{span}
use Rattle.queue.proofs.Queues.clear.Goals as goal

pub returns-clause-table : goal.returns-clause-table
unfolding part_of with_part
returns-clause-table c =
    let s = c.span-from.ensures in
    let u = rw (s.0, s.1, span _ _) at c.clear.ensures in
    rw (s.0, s.1, span _ _, u) refl

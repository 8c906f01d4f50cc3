-- `update` meets its contract.
use mathlib.Core.Path.{refl}
use Rattle.queue.specs.Parts.{part_of, with_part}
use Rattle.queue.proofs.Pieces.{span}
use Rattle.queue.proofs.Queues.update.Goals as goal

pub update_part-m-requires : goal.update_part-m-requires
unfolding part_of
update_part-m-requires c = let s = c.span-from.ensures in rw (s.0, s.1, span _ _) (c.requires.1, c.requires.2)

pub returns-clause-table : goal.returns-clause-table
unfolding part_of with_part
returns-clause-table c =
    let s = c.span-from.ensures in
    let u = rw (s.0, s.1, span _ _) at c.update_part-m.ensures in
    rw (s.0, s.1, span _ _, u.0, u.1) refl

-- `top` meets its contract.
use Rattle.queue.specs.Parts.{part_of}
use Rattle.queue.specs.Table.{top_in}
use Rattle.queue.proofs.Pieces.{span}
use Rattle.queue.proofs.Tops.{first_none, first_found}
use Rattle.queue.proofs.top.Goals as goal

pub returns-then-counts-i-eq0 : goal.returns-then-counts-i-eq0
unfolding top_in
returns-then-counts-i-eq0 c = first_none _ _ _ c.if-counts-i-eq0.true

pub returns : goal.returns
unfolding top_in part_of
returns c =
    let u = rw (span _ _) at c.entry-e.ensures in
    first_found _ _ _ c.if-counts-i-eq0.false _ u

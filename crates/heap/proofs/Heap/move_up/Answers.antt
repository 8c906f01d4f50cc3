-- `move_up` meets its contract.
use Rattle.heap.proofs.Laws.{lowers_stays, lowers_goes}
use Rattle.heap.proofs.Heap.move_up.Goals as goal

pub returns-then-c-j-clause-lowers : goal.returns-then-c-j-clause-lowers
returns-then-c-j-clause-lowers c =
    let l = c.lower-c.ensures in
    lowers_goes _ _ _ _ _ _ _ l.0 l.1 c.if-c-j.true _ c.entry-x.ensures _ c.put.ensures.words

pub returns-else-c-j-clause-lowers : goal.returns-else-c-j-clause-lowers
returns-else-c-j-clause-lowers c = let l = c.lower-c.ensures in lowers_stays _ _ _ _ _ _ _ l.0 l.1 c.if-c-j.false

-- `enter` meets its contract.
use Rattle.queue.proofs.Built.{enter_asks, entered_more}
use Rattle.queue.proofs.Queues.enter.Goals as goal

pub store-requires : goal.store-requires
store-requires c = rw (c.fresh.ensures, c.requires.0) (enter_asks _ _ _ _ _ _ _ c.requires.1 _ c.vertex-x.ensures)

pub returns-clause-queues : goal.returns-clause-queues
returns-clause-queues c =
    entered_more _ _ _ _ _ _ _ c.requires.1 _ c.vertex-x.ensures _ (rw (c.fresh.ensures, c.requires.0) at c.store.ensures.stored)

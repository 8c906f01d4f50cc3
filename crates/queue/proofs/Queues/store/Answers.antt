-- `store` meets its contract.
use Rattle.queue.proofs.Entered.{stored_none, stored_anchor, stored_all}
use Rattle.queue.proofs.Queues.store.Goals as goal

pub returns-then-not-old-x-clause-stored : goal.returns-then-not-old-x-clause-stored
returns-then-not-old-x-clause-stored c =
    let m = c.store_in.ensures.same in
    stored_all _ _ _ _ _ _ _ _ c.requires _ c.store_in.ensures.stored _ (rw (m.vertices, m.tables, m.anchor, m.guides) at c.store_guides.ensures.stored)

pub returns-else-not-old-x-clause-stored : goal.returns-else-not-old-x-clause-stored
returns-else-not-old-x-clause-stored c = stored_anchor _ _ _ _ _ _ _ _ c.requires _ c.store_in.ensures.stored c.if-not-old-x.false

pub returns-else-old-x-clause-stored : goal.returns-else-old-x-clause-stored
returns-else-old-x-clause-stored c = stored_none _ _ _ _ _ _ _ _ c.requires c.if-old-x.false

-- `store_in` meets its contract.
use Rattle.queue.proofs.Entered.{table_there, safe_there, update_asks, stored_in}
use Rattle.queue.proofs.Queues.store_in.Goals as goal

pub update-requires : goal.update-requires
update-requires c =
    let y = c.requires in
    (table_there _ _ _ _ _ _ _ _ y, safe_there _ _ _ _ _ _ _ _ y, update_asks _ _ _ _ _ _ _ _ y _ c.offer-offer.ensures)

pub returns-clause-stored : goal.returns-clause-stored
returns-clause-stored c = stored_in _ _ _ _ _ _ _ _ c.requires _ c.offer-offer.ensures _ c.update.ensures.table

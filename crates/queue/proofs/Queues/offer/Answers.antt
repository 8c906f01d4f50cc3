-- `offer` meets its contract.
use borrow.Author.Tests.{not-true}
use Rattle.queue.proofs.OneTable.{closed, offers_some, offers_none}
use Rattle.queue.proofs.Queues.offer.Goals as goal

pub returns-then-not-x : goal.returns-then-not-x
returns-then-not-x c = closed _ _ _ _ _ (not-true c.args.x.opened c.if-not-x.true)

pub returns-then-is_offered : goal.returns-then-is_offered
returns-then-is_offered c = offers_some _ _ _ _ _ _ c.number-h.ensures _ c.is_offered.ensures c.if-is_offered.true _ c.entry_for.ensures

pub returns-else-is_offered : goal.returns-else-is_offered
returns-else-is_offered c = offers_none _ _ _ _ _ _ c.number-h.ensures _ c.is_offered.ensures c.if-is_offered.false

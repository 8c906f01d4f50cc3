-- `number` meets its contract.
use Rattle.queue.proofs.OneTable.{number_anchor, number_sheet}
use Rattle.queue.proofs.Queues.number.Goals as goal

pub returns-then-i-eq0 : goal.returns-then-i-eq0
returns-then-i-eq0 c = number_anchor _ _ _ _ _ c.if-i-eq0.true

pub returns : goal.returns
returns c = number_sheet _ _ _ _ _ c.if-i-eq0.false c.requires.0

-- `place` meets its contract.
use mathlib.Core.Path.{◌∙◌}
use Rattle.heap.proofs.Laws.{placed_rises, placed_sinks}
use Rattle.heap.proofs.Heap.place.Goals as goal

pub returns-then-cheaper-clause-words : goal.returns-then-cheaper-clause-words
returns-then-cheaper-clause-words c = c.rise.ensures.words ∙ placed_rises _ _ _ _ _ _ c.cheaper.ensures c.if-cheaper.true

pub returns-else-cheaper-clause-words : goal.returns-else-cheaper-clause-words
returns-else-cheaper-clause-words c = c.sink.ensures.words ∙ placed_sinks _ _ _ _ _ _ c.cheaper.ensures c.if-cheaper.false

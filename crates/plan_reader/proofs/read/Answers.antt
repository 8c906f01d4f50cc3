-- `read` meets its contract: the lists are filled where each has room.
use mathlib.Core.Path.{sym, ◌∙◌}
use Rattle.plan_reader.proofs.Filling.{room_each}
use Rattle.plan_reader.proofs.read.Goals as goal

pub fill-requires-clause-has_room : goal.fill-requires-clause-has_room
fill-requires-clause-has_room c = room_each _ _ (sym c.has_room.ensures ∙ c.if-not-has_room.false)

-- `fill` meets its contract: the lists after i edges, and after all.
use native.Mathlib.Omega.{arith}
use mathlib.Core.Path.{sym, ◌∙◌}
use Rattle.plan_reader.proofs.Filling.{filled_next, filled_all}
use Rattle.plan_reader.proofs.fill.Goals as goal

pub loop-i-preserved : goal.loop-i-preserved
loop-i-preserved c = filled_next c.loop-i.invariant (omega arith) (sym c.next_checked.ensures ∙ c.in-Ok.is) c.store.ensures

pub returns : goal.returns
returns c = filled_all c.loop-i.invariant (omega arith) c.requires.is_checked c.requires.has_room

-- `fill` meets its contract: the lists after i edges, and after all.
use Rattle.plan_reader.proofs.Filling.{Filling}
use Rattle.plan_reader.proofs.fill.Given as goal

abbrev pub invariant-loop-i : goal.invariant-loop-i
invariant-loop-i l = Filling l.size.vertices l.size.edges l.bytes l.at l.i l.cursor l.initial.lists l.lists

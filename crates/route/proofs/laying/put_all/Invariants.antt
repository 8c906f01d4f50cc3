-- `put_all` meets its contract: the last vertices are laid, and x is the next one.
use Rattle.workspace.specs.Layout.{pred_of}
use Rattle.route.proofs.Laid.{Laying}
use Rattle.route.proofs.laying.put_all.Given as goal

abbrev pub invariant-loop-i : goal.invariant-loop-i
invariant-loop-i l = Laying (pred_of l.graph.size l.graph.words.now) l.n l.goal l.initial.route l.route l.i l.x

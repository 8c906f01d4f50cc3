-- `read_edges` meets its contract: the edges before i were seen.
use Rattle.plan_check.proofs.Watching.{Seen}
use Rattle.plan_check.proofs.read_edges.Given as goal

abbrev pub invariant-loop-i : goal.invariant-loop-i
invariant-loop-i g l = Seen g.W.Watch.seen l.size.vertices l.size.edges l.bytes l.at l.fn.watch l.watch l.i l.cursor

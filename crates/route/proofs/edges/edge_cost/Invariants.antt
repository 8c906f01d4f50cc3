-- `edge_cost` meets its contract: what is found among the edges from the next one on is that of the graph.
use Rattle.route.proofs.Found.{Looking}
use Rattle.route.proofs.edges.edge_cost.Given as goal

abbrev pub invariant-loop-j : goal.invariant-loop-j
invariant-loop-j l = Looking l.graph.size l.graph.words.now l.a l.b l.j-end l.j

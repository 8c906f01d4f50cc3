-- `load_graph` meets its contract: the words after j edges, and after all.
use Rattle.loader.proofs.Loading.{Loading}
use Rattle.loader.proofs.load_graph.Given as goal

abbrev pub invariant-loop-j : goal.invariant-loop-j
invariant-loop-j l = Loading l.z l.bytes l.at l.initial.work l.work l.j l.cursor

-- `edge_lines` meets its contract. The loop's invariant: the lines of the first edges were written.
use lib.ListN.{take}
use Rattle.text.specs.Text.{each}
use Rattle.job.specs.Explained.{edge_line}
use Rattle.workspace.specs.Space.{graph_edges}
use Rattle.printing.specs.Writing.{Wrote}
use Rattle.printing.proofs.writer.Writer.edge_lines.Given as goal

abbrev pub invariant-loop-j : goal.invariant-loop-j
invariant-loop-j l = Wrote (each (edge_line (graph_edges l.graph)) 0 (take l.j-index l.list)) l.initial.self l.self

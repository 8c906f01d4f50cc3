-- `edge_lines` meets its contract.
use native.Mathlib.Omega.{arith}
use mathlib.Core.Path.{sym}
use Rattle.job.specs.Explained.{edge_line}
use Rattle.workspace.specs.Space.{graph_edges}
use Rattle.printing.proofs.Each.{none_each, next_each, each_counted}
use Rattle.printing.proofs.writer.Writer.edge_lines.Goals as goal

pub loop-j-init : goal.loop-j-init
loop-j-init c = none_each (edge_line (graph_edges c.args.graph)) 0 c.args.self.now

pub barred_line-requires : goal.barred_line-requires
unfolding edge_line
barred_line-requires c =
    rw (c.numbered.ensures (record { tail = 0; head = 0; cost = 0; class = 0 }))
    (each_counted (edge_line (graph_edges c.args.graph)) 0 c.loop-j.j-index c.args.list.now (omega arith) c.loop-j.invariant c.requires.2)

pub loop-j-preserved : goal.loop-j-preserved
unfolding edge_line
loop-j-preserved c =
    next_each (edge_line (graph_edges c.args.graph)) 0 c.loop-j.j-index c.args.list.now (omega arith) c.loop-j.invariant
    (rw (sym (c.numbered.ensures (record { tail = 0; head = 0; cost = 0; class = 0 }))) c.barred_line.ensures)

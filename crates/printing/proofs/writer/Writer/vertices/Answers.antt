-- `vertices` meets its contract.
use native.Mathlib.Omega.{arith}
use Rattle.text.specs.Text.{ascii, spaced, vertices}
use Rattle.printing.proofs.Each.{none_each, next_each, each_counted, all_each}
use Rattle.printing.proofs.writer.Writer.vertices.Goals as goal

pub loop-vertex-init : goal.loop-vertex-init
loop-vertex-init c = none_each spaced 0 c.args.self.now

pub field-requires : goal.field-requires
unfolding ascii vertices
field-requires c =
    rw c.from.ensures
    (each_counted spaced 0 c.loop-vertex.vertex-index c.args.list.now (omega arith) c.loop-vertex.invariant c.requires)

pub loop-vertex-preserved : goal.loop-vertex-preserved
unfolding ascii
loop-vertex-preserved c =
    next_each spaced 0 c.loop-vertex.vertex-index c.args.list.now (omega arith) c.loop-vertex.invariant
    (rw c.from.ensures at c.field.ensures)

pub returns : goal.returns
unfolding vertices
returns c = all_each spaced 0 c.loop-vertex.vertex-index c.args.list.now (omega arith) c.loop-vertex.invariant

-- `expand` meets its contract.
use Rattle.turn.proofs.Expanding.{expanded}
use Rattle.turn.proofs.expansion.expand.Goals as goal

pub returns : goal.returns
returns c =
    let f = rw (c.marked.ensures, c.vertex-x.ensures) at c.set_vertex.ensures in
    expanded c.args.space.now _ c.args.i c.args.s f c.args.barred _ (rw c.vertex-x.ensures at c.relax_all.ensures)

-- `edge` meets its contract.
use native.Mathlib.Omega.{arith}
use Rattle.workspace.proofs.Numbered.{edge_within}
use Rattle.workspace.proofs.Graph.edge.Goals as goal

pub edge-requires : goal.edge-requires
edge-requires c = (omega (arith, c.args.self.loaded.room), c.requires)

pub returns : goal.returns
returns c =
    let g = c.args.self in
    record { value = c.edge.ensures; within = edge_within g.size g.words.now g.loaded c.args.t c.args.j c.requires _ c.edge.ensures }

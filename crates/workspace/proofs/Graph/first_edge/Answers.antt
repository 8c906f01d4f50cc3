-- `first_edge` meets its contract.
use native.Mathlib.Omega.{arith}
use Rattle.workspace.proofs.Numbered.{first_within}
use Rattle.workspace.proofs.Graph.first_edge.Goals as goal

pub first_edge-requires : goal.first_edge-requires
first_edge-requires c = (omega (arith, c.args.self.loaded.room), c.requires)

pub returns : goal.returns
returns c =
    let g = c.args.self in
    record {
      value = c.first_edge.ensures;
      within = λ h. rw c.first_edge.ensures (first_within g.size g.words.now g.loaded h c.args.t c.requires);
    }

-- `numbered` meets its contract: the edge under its tail.
use mathlib.Core.Path.{◌∙◌}
use native.Mathlib.Omega.{arith}
use Rattle.workspace.proofs.Numbered.{edge_numbered}
use Rattle.workspace.proofs.edge_words.numbered.Goals as goal

pub edge-requires : goal.edge-requires
edge-requires c = (omega (arith, c.requires.0.graph.room), c.requires.1)

pub returns : goal.returns
returns c =
    let e = c.tail-t.ensures in
    λ other. c.edge.ensures ∙ edge_numbered c.args.z c.args.work.now c.requires.0 _ c.args.j e.0 e.1 e.2 other

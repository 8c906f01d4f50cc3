-- `back` meets its contract.
use Rattle.workspace.specs.Layout.{graph_of}
use Rattle.route.proofs.Traces.{back_step}
use Rattle.route.proofs.trace.back.Goals as goal

pub returns : goal.returns
returns c =
    let e = c.edge_cost-edge.ensures in
    back_step (graph_of c.args.graph.size c.args.graph.words.now) _ c.args.t _ _ _ c.pred-pred.ensures e.0 e.1 c.plus.ensures c.requires.1

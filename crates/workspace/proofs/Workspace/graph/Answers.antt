-- `graph` meets its contract.
use Rattle.workspace.proofs.Workspace.graph.Goals as goal

pub invariant_of-result : goal.invariant_of-result
invariant_of-result c = record { loaded = c.args.self.now.ready.graph }

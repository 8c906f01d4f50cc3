-- `begin` meets its contract: the loaded graph, the first vertices, and step 1.
use Rattle.std.proofs.Common.{rules}
use Rattle.planner.proofs.Asked.{rounds_asks}
use Rattle.planner.proofs.Beginning.{load_asks, first_asks, settle_asks, begins_there}
use Rattle.planner.proofs.begin.begin.Goals as goal

pub load_graph-requires : goal.load_graph-requires
load_graph-requires c =
    let e = load_asks _ _ _ _ _ _ c.requires.called in
    record { at_value = e.0; z_in_bounds = e.1 }

pub begin-space-requires : goal.begin-space-requires
begin-space-requires c = first_asks _ _ _ _ _ _ c.requires.called _ c.load_graph.ensures

pub rounds-left-requires : goal.rounds-left-requires
rounds-left-requires c = rounds_asks _ _ _ c.requires.called.asking _ c.taken.ensures

pub settle-requires : goal.settle-requires
settle-requires c =
    let b = c.begin-space.ensures in
    settle_asks _ _ _ _ _ _ c.requires.called _ c.load_graph.ensures c.begin-space.result b.lent.size_is b.becomes _ c.at_first-p.ensures
    _ c.taken.ensures _ c.rounds-left.ensures

pub returns : goal.returns
returns c =
    let b = c.begin-space.ensures in
    record {
      begins =
          λ d h.
          begins_there d _ _ _ _ _ h _ c.load_graph.ensures c.begin-space.result b.lent.size_is b.becomes _ c.at_first-p.ensures
          _ c.taken.ensures _ c.rounds-left.ensures _ c.settle.new.space _ _ _ c.settle.ensures (search rules) (search rules);
    }

-- `edge` meets its contract.
use native.Mathlib.Omega.{arith}
use Rattle.workspace.specs.Layout.{base}
use Rattle.workspace.proofs.Firsts.{edge_read}
use Rattle.workspace.proofs.edge_words.edge.Goals as goal

pub bounds-work-at : goal.bounds-work-at
unfolding base
bounds-work-at c = omega arith

pub bounds-work-at-2 : goal.bounds-work-at-2
unfolding base
bounds-work-at-2 c = omega arith

pub bounds-work-at-3 : goal.bounds-work-at-3
unfolding base
bounds-work-at-3 c = omega arith

pub returns : goal.returns
returns c = edge_read c.args.z c.args.work.now c.args.j c.args.t

-- `first_edge` meets its contract.
use native.Mathlib.Omega.{arith}
use Rattle.workspace.specs.Layout.{base, first_of}
use Rattle.std.proofs.Common.{rules}
use Rattle.workspace.proofs.edge_words.first_edge.Goals as goal

pub bounds-work-t : goal.bounds-work-t
unfolding base
bounds-work-t c = omega arith

pub returns : goal.returns
unfolding first_of
returns c = search rules

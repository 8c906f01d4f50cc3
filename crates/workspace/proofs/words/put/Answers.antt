-- `put` meets its contract.
use lib.ListN.{length-set}
use native.Mathlib.Omega.{arith}
use Rattle.workspace.specs.Layout.{with_two, with_vertex}
use Rattle.workspace.proofs.Two.{marks_are}
use Rattle.workspace.proofs.words.put.Goals as goal

pub bounds-work-o-2 : goal.bounds-work-o-2
bounds-work-o-2 c = simp length-set (omega arith)

pub bounds-wide-i-2 : goal.bounds-wide-i-2
bounds-wide-i-2 c = simp length-set (omega arith)

pub returns : goal.returns
unfolding with_vertex with_two
returns c =
    rw (marks_are c.args.x _ _ _ _ c.from.ensures c.from-2.ensures c.from-3.ensures c.from-4.ensures, c.base.ensures)

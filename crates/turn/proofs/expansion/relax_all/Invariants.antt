-- `relax_all` meets its contract: the edges of s before edge j, and all of them.
use Rattle.turn.proofs.Expanding.{Tried}
use Rattle.turn.proofs.expansion.relax_all.Given as goal

abbrev pub invariant-loop-j : goal.invariant-loop-j
invariant-loop-j l = Tried l.barred l.s l.g l.first l.end l.initial.space l.space l.j

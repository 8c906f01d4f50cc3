-- `settle` meets its contract: what the rest of the rounds does is what all of them do.
use Prim.Native.Nat.{◌-◌}
use Rattle.planner.proofs.Settling.{Rest}
use Rattle.planner.proofs.rounds.settle.Given as goal

abbrev pub invariant-loop-done : goal.invariant-loop-done
invariant-loop-done l = Rest l.call l.initial.space l.initial.route l.left l.initial.p l.space l.route (l.left - l.done) l.p

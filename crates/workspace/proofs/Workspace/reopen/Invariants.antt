-- `reopen` meets its contract.
use Rattle.workspace.proofs.RoundStart.{Reopening}
use Rattle.workspace.proofs.Workspace.reopen.Given as goal

abbrev pub invariant-loop-p : goal.invariant-loop-p
invariant-loop-p l = Reopening l.initial.self l.self l.p

-- `least` meets its contract: the best of the first s vertices, and of all.
use Rattle.turn.specs.Lead.{best_of}
use Rattle.turn.proofs.Scanning.{Scanned}
use Rattle.turn.proofs.scan.Scan.least.Given as goal

abbrev pub invariant-loop-s : goal.invariant-loop-s
invariant-loop-s l = Scanned l.fn.self l.s (best_of l.lead)

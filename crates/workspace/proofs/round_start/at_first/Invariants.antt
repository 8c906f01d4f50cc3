-- `at_first` meets its contract.
use mathlib.Core.Path.{◌≡◌}
use lib.ListN.{length, replicate}
use Rattle.search.specs.Job.{fresh}
use Rattle.workspace.specs.Layout.{mem, written}
use Rattle.workspace.proofs.round_start.at_first.Given as goal

abbrev pub invariant-loop-p : goal.invariant-loop-p
invariant-loop-p l = (length l.work ≡ length l.initial.work) × (length l.wide ≡ length l.initial.wide) × (mem l.work l.wide ≡ written l.z (replicate l.p fresh) (mem l.initial.work l.initial.wide))

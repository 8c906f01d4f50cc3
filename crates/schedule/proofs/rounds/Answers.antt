-- `rounds` meets its contract: two numbers for each round.
use mathlib.Core.Path.{sym}
use Rattle.schedule.proofs.Taken.{pairs_length}
use Rattle.schedule.proofs.rounds.Goals as goal

pub returns : goal.returns
returns c = sym (pairs_length _)

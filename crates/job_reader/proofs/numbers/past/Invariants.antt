-- `past` meets its contract: the numbers that are left end where all do.
use Rattle.job_reader.proofs.Ends.{Ending}
use Rattle.job_reader.proofs.numbers.past.Given as goal

abbrev pub invariant-loop : goal.invariant-loop
invariant-loop l = Ending l.job l.count l.at l.counter l.end

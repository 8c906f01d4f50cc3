-- `store` meets its contract: what is to come, stored from here on, gives what the whole gives.
use Rattle.job_reader.proofs.Stores.{Storing}
use Rattle.job_reader.proofs.storing.store.Given as goal

abbrev pub invariant-loop-i : goal.invariant-loop-i
invariant-loop-i l = Storing l.job l.count l.at l.initial.into l.i l.next l.into

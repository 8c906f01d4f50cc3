-- `store` meets its contract: what is to come, stored from here on, gives what the whole gives.
use Rattle.std.proofs.Common.{rules}
use Rattle.job_reader.proofs.Stores.{storing_next}
use Rattle.job_reader.proofs.storing.store.Goals as goal

pub loop-i-preserved : goal.loop-i-preserved
loop-i-preserved c = storing_next _ _ _ _ _ _ _ c.loop-i.invariant _ _ c.loop-i-test.true (search rules)

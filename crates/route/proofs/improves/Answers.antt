-- `improves` meets its contract.
use borrow.Author.Tests.{eq-eqb, ne_eqb}
use Rattle.search.specs.Rounds.{improves}
use Rattle.route.proofs.improves.Goals as goal

pub returns-then-p-eq0 : goal.returns-then-p-eq0
unfolding improves
returns-then-p-eq0 c = rw (eq-eqb _ 0 c.if-p-eq0.true)

pub returns-else-p-eq0 : goal.returns-else-p-eq0
unfolding improves
returns-else-p-eq0 c = rw (ne_eqb _ 0 c.if-p-eq0.false)

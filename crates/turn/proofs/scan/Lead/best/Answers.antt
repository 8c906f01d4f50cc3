-- `Lead::best` meets its contract.
use borrow.Author.Tests.{eq-eqb, ne_eqb}
use Rattle.turn.specs.Lead.{best_of}
use Rattle.turn.proofs.scan.Lead.best.Goals as goal

pub returns-then-key : goal.returns-then-key
unfolding best_of
returns-then-key c = simp (eq-eqb _ _ c.if-key.true)

pub returns : goal.returns
unfolding best_of
returns c = simp (ne_eqb _ _ c.if-key.false)

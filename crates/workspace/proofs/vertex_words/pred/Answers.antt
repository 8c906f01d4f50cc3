-- `pred` meets its contract.
use borrow.Author.Tests.{lt-ltb, le-ltb}
use Rattle.search.specs.Job.{no_pred}
use Rattle.workspace.specs.Layout.{pred_of}
use Rattle.workspace.proofs.vertex_words.pred.Goals as goal

pub returns-then-x-z : goal.returns-then-x-z
unfolding pred_of
returns-then-x-z c = rw (lt-ltb _ _ c.if-x-z.true, c.base.ensures)

pub returns : goal.returns
unfolding pred_of no_pred
returns c = rw (le-ltb _ _ c.if-x-z.false)

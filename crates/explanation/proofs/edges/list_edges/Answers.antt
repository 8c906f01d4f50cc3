-- `list_edges` meets its contract. The loop's invariant: the edges of the tails before t are listed.
use Rattle.std.proofs.Common.{rules, arith}
use Rattle.explanation.proofs.Listing.{tails_none, tails_few, tails_length, tails_next, tails_all, handed_back}
use Rattle.explanation.proofs.edges.list_edges.Goals as goal

pub loop-t-init : goal.loop-t-init
loop-t-init c = tails_none _ _ _ _

pub list_edges_of-requires : goal.list_edges_of-requires
list_edges_of-requires c =
    let i = c.loop-t.invariant in (
      c.loop-t-test.true,
      omega (arith, tails_few _ _ c.requires.0 _ _ _ _ i),
      omega (arith, tails_length _ _ c.requires.0 _ _ _ _ i, c.requires.1),
    )

pub loop-t-preserved : goal.loop-t-preserved
loop-t-preserved c = tails_next _ _ c.requires.0 _ _ _ _ c.loop-t.invariant _ c.loop-t-test.true c.list_edges_of.ensures

pub returns : goal.returns
returns c = handed_back _ (tails_all _ _ c.requires.0 _ _ _ _ c.loop-t.invariant c.loop-t-test.false) (search (rules, c.loop-t.invariant.adds.lent))

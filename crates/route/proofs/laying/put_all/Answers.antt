-- `put_all` meets its contract.
use native.Mathlib.Omega.{arith}
use Rattle.route.proofs.Laid.{laying_more, laying_all}
use Rattle.route.proofs.laying.put_all.Goals as goal

pub loop-i-preserved : goal.loop-i-preserved
loop-i-preserved c =
    let l = c.loop-i in
    laying_more _ _ _ _ l.route l.i l.x l.invariant _ c.loop-i-test.true (omega arith) c.pred-x.ensures

pub returns : goal.returns
returns c =
    let l = c.loop-i in
    laying_all _ _ _ _ l.route l.i l.x l.invariant (omega arith)

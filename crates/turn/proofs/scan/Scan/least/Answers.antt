-- `least` meets its contract: the best of the first s vertices, and of all.
use Rattle.turn.proofs.Scanning.{scanned_none, scanned_next, scanned_all}
use Rattle.turn.proofs.scan.Scan.least.Goals as goal

pub loop-s-init : goal.loop-s-init
loop-s-init c = rw c.none-lead.ensures (scanned_none c.args.self)

pub loop-s-preserved : goal.loop-s-preserved
loop-s-preserved c =
    let l = c.loop-s in
    scanned_next c.args.self l.s _ l.invariant _ c.loop-s-test.true c.consider-lead.ensures.0 c.consider-lead.ensures.1

pub returns : goal.returns
returns c =
    let l = c.loop-s in
    rw c.best.ensures (scanned_all c.args.self l.s _ l.invariant c.loop-s-test.false)

-- `reopen` meets its contract.
use Rattle.workspace.proofs.RoundStart.{reopening_none, reopening_more, reopening_all}
use Rattle.workspace.proofs.Workspace.reopen.Goals as goal

pub loop-p-init : goal.loop-p-init
loop-p-init c = reopening_none c.args.self.now

pub loop-p-preserved : goal.loop-p-preserved
loop-p-preserved c =
    reopening_more c.args.self.now c.loop-p.self c.loop-p.p c.loop-p.invariant c.set_vertex.new.self c.loop-p-test.true
    (rw (c.reopened.ensures, c.vertex-x.ensures) at c.set_vertex.ensures)

pub returns : goal.returns
returns c = reopening_all c.args.self.now c.loop-p.self c.loop-p.p c.loop-p.invariant c.loop-p-test.false

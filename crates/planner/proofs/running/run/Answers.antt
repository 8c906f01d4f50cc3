-- `run` meets its contract: it stands where the turns made so far lead.
use native.Mathlib.Omega.{arith}
use mathlib.Core.Path.{sym, ◌∙◌}
use Rattle.planner.proofs.Rerun.{ran_none, advancing, ran_more, ran_all, ran_over}
use Rattle.planner.proofs.running.run.Goals as goal

pub loop-init : goal.loop-init
loop-init c = ran_none _ c.args.space.now _ _ _

pub advance-stand-requires : goal.advance-stand-requires
advance-stand-requires c = advancing _ c.args.space.now _ _ _ c.loop.counter _ c.loop.space _ _ c.loop.invariant c.requires (omega arith)

pub loop-preserved : goal.loop-preserved
loop-preserved c = ran_more _ c.args.space.now _ _ _ c.loop.counter _ c.loop.space _ _ c.loop.invariant _ c.advance-stand.new.space _ _ c.advance-stand.ensures

pub returns-after-loop : goal.returns-after-loop
returns-after-loop c = ran_all _ c.args.space.now _ _ _ c.loop.counter _ c.loop.space _ _ c.loop.invariant _ c.loop.auto.counter-end c.loop-test.false

pub returns-then-not-is_due : goal.returns-then-not-is_due
returns-then-not-is_due c =
    ran_over _ c.args.space.now _ _ _ c.loop.counter _ c.loop.space _ _ c.loop.invariant _ c.loop.auto.counter-end (sym c.is_due.ensures ∙ c.if-not-is_due.true)

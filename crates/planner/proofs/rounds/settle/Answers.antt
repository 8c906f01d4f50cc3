-- `settle` meets its contract: what the rest of the rounds does is what all of them do.
use native.Mathlib.Numerals.{unary_clauses}
use native.Mathlib.Omega.{arith}
use Rattle.planner.proofs.Settling.{round_in, step_asks, round_over, rest_all, rest_none, rest_stop, rest_less}
use Rattle.planner.proofs.rounds.settle.Goals as goal

pub loop-done-init : goal.loop-done-init
loop-done-init c = simp unary_clauses (rest_all _ c.args.space.now _ _ _ c.requires)

pub factors-f-requires : goal.factors-f-requires
factors-f-requires c =
    let h = c.loop-done.invariant.settling in
    round_in _ c.loop-done.space _ _ _ h (omega (arith, c.loop-done-test.true)) _ c.taken.ensures

pub step_one-step-requires : goal.step_one-step-requires
step_one-step-requires c =
    let h = c.loop-done.invariant.settling in
    let v = c.vertices.ensures in
    step_asks _ c.loop-done.space _ _ _ h (omega (arith, c.loop-done-test.true)) _ c.taken.ensures _ c.factors-f.ensures c.vertices.result v.work v.wide v.size

pub returns-in_default : goal.returns-in_default
returns-in_default c =
    let v = c.vertices.ensures in
    let e = c.step_one-step.ensures in
    rest_stop _ c.args.space.now _ _ _ c.loop-done.space _ _ _ c.loop-done.invariant (omega (arith, c.loop-done-test.true))
    _ c.taken.ensures _ c.factors-f.ensures c.vertices.result v.work v.wide v.size _ e.0 e.1 c.in_default.not-Finished

pub end_round-p-requires : goal.end_round-p-requires
end_round-p-requires c =
    let h = c.loop-done.invariant.settling in
    let v = c.vertices.ensures in
    round_over _ c.loop-done.space _ _ _ h (omega (arith, c.loop-done-test.true)) _ c.taken.ensures _ c.factors-f.ensures
    c.vertices.result v.work v.wide v.size _ c.step_one-step.ensures.0 c.in-Finished.is

pub loop-done-preserved : goal.loop-done-preserved
loop-done-preserved c =
    let v = c.vertices.ensures in
    rest_less _ c.args.space.now _ _ _ c.loop-done.space _ _ _ c.loop-done.invariant (omega (arith, c.loop-done-test.true))
    _ c.taken.ensures _ c.factors-f.ensures c.vertices.result v.work v.wide v.size _ c.step_one-step.ensures.0
    _ _ c.end_round-p.new.space _ (omega arith) c.in-Finished.is c.end_round-p.ensures

pub returns : goal.returns
returns c = rest_none _ c.args.space.now _ _ _ c.loop-done.space _ _ _ c.loop-done.invariant (omega (arith, c.loop-done-test.false))

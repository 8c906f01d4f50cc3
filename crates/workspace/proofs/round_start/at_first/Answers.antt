-- `at_first` meets its contract.
use mathlib.Core.Path.{◌≡◌, refl, ◌∙◌}
use native.Mathlib.Omega.{arith}
use Rattle.workspace.specs.Layout.{mem}
use Rattle.workspace.proofs.Written.{written_none}
use Rattle.workspace.proofs.RoundStart.{fresh_more, fresh_all}
use Rattle.workspace.proofs.round_start.at_first.Goals as goal

pub loop-p-init : goal.loop-p-init
loop-p-init c = (refl, refl, written_none c.args.z (mem c.args.work.now c.args.wide.now) c.requires.0)

pub put-requires : goal.put-requires
put-requires c =
    let r = c.requires.0 in
    let i = c.loop-p.invariant in
    (record { work = omega (arith, i.0, r.work); wide = omega (arith, i.1, r.wide) }, c.loop-p-test.true)

pub loop-p-preserved : goal.loop-p-preserved
loop-p-preserved c =
    let l = c.loop-p in (
      c.put.auto.work ∙ l.invariant.0,
      c.put.auto.wide ∙ l.invariant.1,
      fresh_more c.args.z (mem c.args.work.now c.args.wide.now) (mem l.work l.wide) _ l.p c.requires.0 l.invariant.2 c.loop-p-test.true
          (rw c.fresh.ensures at c.put.ensures),
    )

pub put-requires-2 : goal.put-requires-2
put-requires-2 c =
    let r = c.requires.0 in
    let i = c.loop-p.invariant in
    (record { work = omega (arith, i.0, r.work); wide = omega (arith, i.1, r.wide) }, omega (arith, c.requires.1))

pub shape_of-work : goal.shape_of-work
shape_of-work c = c.put-2.auto.work ∙ c.loop-p.invariant.0

pub shape_of-wide : goal.shape_of-wide
shape_of-wide c = c.put-2.auto.wide ∙ c.loop-p.invariant.1

pub returns : goal.returns
returns c =
    let l = c.loop-p in
    let e : l.p ≡ c.args.z.vertices = omega arith in
    fresh_all c.args.z (mem c.args.work.now c.args.wide.now) (mem l.work l.wide) _ l.p c.requires.0 l.invariant.2 c.args.start e c.requires.1
    (rw c.origin.ensures at c.put-2.ensures)

-- `load_graph` meets its contract: the words after j edges, and after all.
use mathlib.Core.Path.{refl}
use native.Mathlib.Omega.{arith}
use lib.ListN.{length-set}
use Rattle.plan_check.proofs.Checked.{has_next}
use Rattle.workspace.specs.Layout.{base}
use Rattle.loader.proofs.Loading.{loading_next, loading_all}
use Rattle.loader.proofs.load_graph.Goals as goal

pub bounds-work-0 : goal.bounds-work-0
unfolding base
bounds-work-0 c = omega (arith, c.requires.z_in_bounds)

pub load_edge-cursor-requires : goal.load_edge-cursor-requires
load_edge-cursor-requires c =
    let l = c.loop-j in
    record {
      z_in_bounds = (omega (arith, simp length-set at l.invariant.size, c.requires.z_in_bounds), c.loop-j-test.true);
      has_next = has_next _ _ _ c.args.at _ _ c.loop-j-test.true l.invariant.stored;
    }

pub loop-j-preserved : goal.loop-j-preserved
loop-j-preserved c =
    let l = c.loop-j in
    let e = c.load_edge-cursor.ensures in
    loading_next c.args.z _ c.args.at _ l.work l.j l.cursor l.invariant _ _ c.loop-j-test.true e.value e.work_after

pub slice_bounds-fill-end : goal.slice_bounds-fill-end
unfolding base
slice_bounds-fill-end c =
    omega (arith, simp length-set at c.loop-j.invariant.size, c.requires.z_in_bounds)

pub returns : goal.returns
returns c =
    let l = c.loop-j in
    loading_all c.args.z _ c.args.at _ l.work l.j l.cursor l.invariant c.args.work.now _ _ c.requires.z_in_bounds refl c.loop-j-test.false c.requires.at_value
    (c.fill.ensures.after (λ y e. e)) refl

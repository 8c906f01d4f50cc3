-- `load_edge` meets its contract: an edge, or nothing.
use mathlib.Core.Path.{sym, ◌∙◌}
use native.Mathlib.Omega.{arith}
use Rattle.workspace.specs.Layout.{base}
use Rattle.loader.proofs.Loading.{next_tail, loaded_one}
use Rattle.loader.proofs.load_edge.Goals as goal

pub slice_bounds-fill-count : goal.slice_bounds-fill-count
slice_bounds-fill-count c =
    let q = sym c.next_checked.ensures ∙ c.in-Ok.is in
    omega (arith, (next_tail _ _ c.args.cursor _ _ q).rises)

pub slice_bounds-fill-start : goal.slice_bounds-fill-start
slice_bounds-fill-start c =
    let q = sym c.next_checked.ensures ∙ c.in-Ok.is in
    omega (arith, (next_tail _ _ c.args.cursor _ _ q).rises)

pub slice_bounds-fill-end : goal.slice_bounds-fill-end
unfolding base
slice_bounds-fill-end c =
    let q = sym c.next_checked.ensures ∙ c.in-Ok.is in
    omega (arith, (next_tail _ _ c.args.cursor _ _ q).vertex, c.requires.z_in_bounds.0)

pub returns : goal.returns
returns c =
    let q = sym c.next_checked.ensures ∙ c.in-Ok.is in
    let e = loaded_one c.args.z _ c.args.j c.args.work.now c.args.cursor _ _ _ _ q c.requires.z_in_bounds.0 (c.fill.ensures.after (λ y e. e)) c.put_edge.ensures in
    record { value = e.0; work_after = e.1 }

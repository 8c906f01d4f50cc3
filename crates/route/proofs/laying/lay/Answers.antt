-- `lay` meets its contract.
use native.Mathlib.Omega.{arith}
use Rattle.search.specs.Job.{route_end}
use Rattle.route.proofs.Laid.{traced_in_most, laid_whole}
use Rattle.route.proofs.laying.lay.Goals as goal

pub put_all-requires : goal.put_all-requires
put_all-requires c =
    omega (arith, c.requires.0, c.requires.1, traced_in_most c.args.graph.size c.args.graph.words.now c.args.start c.args.goal)

pub slice_bounds-fill-count : goal.slice_bounds-fill-count
slice_bounds-fill-count c = omega (arith, c.requires.1, traced_in_most c.args.graph.size c.args.graph.words.now c.args.start c.args.goal)

pub slice_bounds-fill-start : goal.slice_bounds-fill-start
slice_bounds-fill-start c = omega (arith, c.requires.1, traced_in_most c.args.graph.size c.args.graph.words.now c.args.start c.args.goal)

pub returns : goal.returns
unfolding route_end
returns c =
    laid_whole c.args.graph.size c.args.graph.words.now c.args.start c.args.goal c.args.route.now _ _ c.args.n c.requires.1 c.put_all.ensures (omega arith) c.requires.0 (c.fill.ensures.after (λ y e. e))

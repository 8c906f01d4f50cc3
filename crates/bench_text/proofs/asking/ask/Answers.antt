-- `ask` meets its contract: the factors and the tables stand at the fronts of lent memory.
use native.Mathlib.Omega.{arith}
use Rattle.bench_text.proofs.Calls.{parts, factors_few, numbers_few, standard_prefix, standard_few, factors_stored, tables_stored, call_is}
use Rattle.bench_text.proofs.asking.ask.Goals as goal

pub overflow_mul-all : goal.overflow_mul-all
overflow_mul-all c = record { fits = omega (arith, numbers_few c.args.job.now c.args.front c.args.vertices c.requires.read) }

pub store-requires : goal.store-requires
store-requires c = omega (arith, factors_few c.args.job.now c.args.front c.args.vertices c.requires.read, c.told-factors)

pub store-requires-2 : goal.store-requires-2
store-requires-2 c = omega (arith, numbers_few c.args.job.now c.args.front c.args.vertices c.requires.read, c.told-tables)

pub shared_ref_as_front-split_at : goal.shared_ref_as_front-split_at
shared_ref_as_front-split_at c = numbers_few c.args.job.now c.args.front c.args.vertices c.requires.read

pub slice_bounds-result-count : goal.slice_bounds-result-count
slice_bounds-result-count c = (parts c.args.job.now c.args.front c.args.vertices c.requires.read).fits.plan

pub slice_bounds-result-start : goal.slice_bounds-result-start
slice_bounds-result-start c = (parts c.args.job.now c.args.front c.args.vertices c.requires.read).fits.plan

pub slice_bounds-result-end : goal.slice_bounds-result-end
slice_bounds-result-end c = (parts c.args.job.now c.args.front c.args.vertices c.requires.read).fits.end

pub shared_ref_as_front-result : goal.shared_ref_as_front-result
shared_ref_as_front-result c = factors_few c.args.job.now c.args.front c.args.vertices c.requires.read

pub shared_ref_as_front-result-2 : goal.shared_ref_as_front-result-2
shared_ref_as_front-result-2 c = standard_few _ c.requires.ours

pub returns : goal.returns
returns c =
    let a = factors_stored c.args.job.now c.args.front c.args.vertices c.requires.read _ _ c.told-factors c.store.ensures in
    let b = tables_stored c.args.job.now c.args.front c.args.vertices c.requires.read _ _ c.told-tables c.store-2.ensures in
    rw (c.split_at.ensures.front, c.split_at.ensures.back) (call_is c.args.job.now c.args.front c.args.vertices c.requires.read _ _ a.is b.is _ (standard_prefix _ c.requires.ours).is)

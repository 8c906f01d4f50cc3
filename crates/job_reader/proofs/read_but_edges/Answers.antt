-- `read_but_edges` meets its contract: the plan stands within the job.
use Rattle.std.proofs.Common.{rules}
use Rattle.job.proofs.Accepted.{front_fits}
use Rattle.job_reader.proofs.read_but_edges.Goals as goal

pub slice_bounds-after_front-count : goal.slice_bounds-after_front-count
slice_bounds-after_front-count c = (front_fits c.args.job.now c.in_ok-front.front (search rules)).plan

pub slice_bounds-after_front-start : goal.slice_bounds-after_front-start
slice_bounds-after_front-start c = (front_fits c.args.job.now c.in_ok-front.front (search rules)).plan

pub slice_bounds-after_front-end : goal.slice_bounds-after_front-end
slice_bounds-after_front-end c = (front_fits c.args.job.now c.in_ok-front.front (search rules)).end

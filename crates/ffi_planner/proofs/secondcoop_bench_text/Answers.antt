-- `secondcoop_bench_text` meets its contract: that of `bench_text`.
use Rattle.ffi_planner.proofs.secondcoop_bench_text.Goals as goal

pub returns : goal.returns
returns c = c.bench_text.ensures

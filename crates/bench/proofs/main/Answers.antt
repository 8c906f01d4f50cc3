-- `main` meets its contract: the text fits its buffer.
use Rattle.std.proofs.Common.{ℕ, ◌≤◌, arith, length, sym}
use lib.ListN.{replicate, length-replicate}
use lib.Seq.{length-take-le}
use Rattle.job.specs.Texts.{max_text}
use Rattle.job.proofs.Lines.{text_fits}
use Rattle.bench.proofs.main.Goals as goal

-- the buffer has room for every text
room : max_text ≤ length {A = ℕ} (replicate max_text 0)
room = omega (arith, length-replicate {A = ℕ} max_text 0)

pub slice_bounds-write_all-end : goal.slice_bounds-write_all-end
slice_bounds-write_all-end c = sym (length-take-le _ _ (text_fits room c.bench_text-length.ensures.texts))

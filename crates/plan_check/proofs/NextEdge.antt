-- Laws for the code that reads an edge: its tail and its head are vertices, and four numbers that were taken are the next edge.
use Prim.Native.Nat.{ℕ, ◌+◌, ◌<◌}
use mathlib.Core.Path.{◌≡◌}
use mathlib.Core.List.{List}
use borrow.Author.Tests.{leb-false}
use Rattle.std.specs.Prelude.{Ok}
use Rattle.graph.specs.Rows.{take_number, tail_rows, head_rows}
use Rattle.graph.proofs.Rows.{Passed, take_passed}

pub taken_tail : (v t : ℕ) (s : List ℕ) (at d next : ℕ) → take_number s at (tail_rows v t) ≡ Ok (d, next) → t + d < v
unfolding tail_rows
taken_tail v t s at d next h =
    let p : Passed s at (tail_rows v t) d next = take_passed s at (tail_rows v t) d next h in leb-false v (t + d) p.passes.0

pub taken_head : (v l : ℕ) (s : List ℕ) (at h next : ℕ) → take_number s at (head_rows v l) ≡ Ok (h, next) → h < v
unfolding head_rows
taken_head v l s at h next e =
    let p : Passed s at (head_rows v l) h next = take_passed s at (head_rows v l) h next e in leb-false v h p.passes.0

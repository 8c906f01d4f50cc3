-- Laws of the numbers that have a range: V, M, a cost and a class have the rows that documents 01 and 02 name.
use Prim.Native.Nat.{ℕ, zero, suc, ◌+◌, ◌*◌, ◌≤◌, ◌<◌}
use native.Mathlib.Omega.{arith}
use mathlib.Core.Path.{◌≡◌, refl}
use mathlib.Core.Bool.{Bool, true, false, cond}
use mathlib.Core.List.{List}
use lib.Dec.{ltb, eqb, leb-suc-zero, leb-suc-suc, eqb-suc-zero}
use borrow.Author.Tests.{lt-ltb, le-ltb, eqb-true, eqb-false}
use Rattle.std.specs.Prelude.{Ok, Err}
use Rattle.graph.specs.declared.refusal.Cause.{Cause}
use Rattle.graph.specs.declared.refusal.Cause.TheVariants as cause
use Rattle.graph.specs.Refusal.{Taken, refusal_of}
use Rattle.leb128.specs.Number.{NumberRead, read, plan_groups}
use Rattle.graph.specs.Limits.{max_vertices, max_edges, max_cost, max_class}
use Rattle.graph.specs.Rows.{Row, through, through_all, take_number, vertex_count_rows, edge_count_rows, cost_rows, class_rows}
use Rattle.plan_check.specs.Range.{range_rows}

module _ (s : List ℕ) (at : ℕ) where
  -- rows that give the same for every number
  module _ (rows rows' : ℕ → List Row)
      (same : (x next : ℕ) → through {A = Taken} (rows x) (λ (n : Cause). Err (refusal_of n at)) (Ok (x, next)) ≡ through {A = Taken} (rows' x) (λ (n : Cause). Err (refusal_of n at)) (Ok (x, next))) where
    alike_by : (r : NumberRead) → through_all rows at r ≡ through_all rows' at r
    unfolding through_all
    alike_by (Err e) = refl
    alike_by (Ok (x, next)) = same x next

    alike : take_number s at rows ≡ take_number s at rows'
    unfolding take_number
    alike = alike_by (read plan_groups s at)

  pub vertex_count_range : take_number s at (range_rows (max_vertices + 1) cause.VertexCount 1 cause.VertexCount) ≡ take_number s at vertex_count_rows
  unfolding range_rows vertex_count_rows through
  vertex_count_range = alike (range_rows (max_vertices + 1) cause.VertexCount 1 cause.VertexCount) vertex_count_rows same
    where
      same : (x next : ℕ) → through {A = Taken} (range_rows (max_vertices + 1) cause.VertexCount 1 cause.VertexCount x) (λ (n : Cause). Err (refusal_of n at)) (Ok (x, next)) ≡ through {A = Taken} (vertex_count_rows x) (λ (n : Cause). Err (refusal_of n at)) (Ok (x, next))
      same zero next = refl
      same (suc x) next = rw (eqb-suc-zero x, leb-suc-suc (suc x) 0, leb-suc-zero x)

  pub edge_count_range : take_number s at (range_rows (max_edges + 1) cause.EdgeCount 0 cause.EdgeCount) ≡ take_number s at edge_count_rows
  unfolding range_rows edge_count_rows through
  edge_count_range = alike (range_rows (max_edges + 1) cause.EdgeCount 0 cause.EdgeCount) edge_count_rows (λ x next. rw (leb-suc-zero x))

  pub cost_range : take_number s at (range_rows (max_cost + 1) cause.Cost 0 cause.Cost) ≡ take_number s at cost_rows
  unfolding range_rows cost_rows through
  cost_range = alike (range_rows (max_cost + 1) cause.Cost 0 cause.Cost) cost_rows (λ x next. rw (leb-suc-zero x))

  pub class_range : take_number s at (range_rows (max_class + 1) cause.Class 0 cause.Class) ≡ take_number s at class_rows
  unfolding range_rows class_rows through
  class_range = alike (range_rows (max_class + 1) cause.Class 0 cause.Class) class_rows (λ x next. rw (leb-suc-zero x))

-- ---- a head below the least that counts, which is 0 after a new tail: compared as one number

module _ (d h l : ℕ) (small : l < 4294967296) where
  below_by : (t : Bool) → eqb d 0 ≡ t → 4294967296 * d + h < l → ltb h (cond t l 0) ≡ true
  below_by true e k = lt-ltb h l (omega (arith, eqb-true d 0 e))
  below_by false e k = let p : d ≡ 0 → ⊥ = eqb-false d 0 e in absurd (omega arith)

  pub below : 4294967296 * d + h < l → ltb h (cond (eqb d 0) l 0) ≡ true
  below k = below_by (eqb d 0) refl k

  from_by : (t : Bool) → eqb d 0 ≡ t → l ≤ 4294967296 * d + h → ltb h (cond t l 0) ≡ false
  from_by true e k = le-ltb h l (omega (arith, eqb-true d 0 e))
  from_by false e k = le-ltb h 0 (omega arith)

  pub from : l ≤ 4294967296 * d + h → ltb h (cond (eqb d 0) l 0) ≡ false
  from k = from_by (eqb d 0) refl k

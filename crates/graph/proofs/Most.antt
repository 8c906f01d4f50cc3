-- The most bytes of an edge, of the header and of a plan, by the limits.
use Prim.Native.Nat.{ℕ, suc, ◌+◌, ◌-◌, ◌*◌, ◌≤◌, ◌<◌}
use native.Mathlib.Omega.{arith}
use mathlib.Core.Path.{◌≡◌, ap}
use mathlib.Core.List.{List, [], ◌∷◌, ◌++◌}
use lib.ListN.{length, length-append}
use Rattle.leb128.specs.Number.{Bytes, encode, plan_groups}
use Rattle.leb128.proofs.Laws.{encode_last, encode_few, encode_at_most}
use Rattle.graph.specs.declared.Edge.{Edge}
use Rattle.graph.specs.Limits.{max_vertices, max_edges, max_class}
use Rattle.graph.specs.Plan.{accepted, decode}
use Rattle.graph.specs.Lists.{none, edge_rows, edges_fault, edge_bytes, edges_bytes, bytes_of}
use Rattle.graph.specs.OneForm.{EdgeWithin}
use Rattle.graph.proofs.Rows.{Passes}
use Rattle.graph.proofs.OneEdge.{passes_within}
use Rattle.graph.proofs.Plan.{edge_clear, Whole, whole}

-- ---- one edge

-- the bytes of an edge, counted
pub edge_length :
    (t : ℕ) (e : Edge) →
    length (edge_bytes t e)
    ≡ length (encode plan_groups (e.tail - t)) + length (encode plan_groups e.head) + length (encode plan_groups e.cost)
    + length (encode plan_groups e.class)
unfolding edge_bytes
edge_length t e = simp length-append (omega arith)

-- a class has one byte
pub class_byte : (k : ℕ) → k ≤ max_class → encode plan_groups k ≡ k ∷ []
unfolding plan_groups
class_byte k h = encode_last 3 k (omega arith)

-- tail and head have two bytes at most, the cost four
pub edge_most : (t : ℕ) (e : Edge) → e.tail < max_vertices → e.head < max_vertices → e.class ≤ max_class → length (edge_bytes t e) ≤ 9
unfolding plan_groups
edge_most t e p q k =
    omega (
      arith,
      edge_length t e,
      encode_at_most 1 4 (e.tail - t) (omega arith),
      encode_at_most 1 4 e.head (omega arith),
      encode_few 4 e.cost,
      ap length (class_byte e.class k),
    )

-- ---- the header: two bytes at most for V, three for M

pub header_most : (v m : ℕ) → v ≤ max_vertices → m ≤ max_edges → length (encode plan_groups v) + length (encode plan_groups m) ≤ 5
unfolding plan_groups
header_most v m p q = omega (arith, encode_at_most 1 4 v (omega arith), encode_at_most 2 4 m (omega arith))

-- ---- the plan

edges_most : (v t l i : ℕ) (es : List Edge) → v ≤ max_vertices → edges_fault v t l i es ≡ none → length (edges_bytes t es) ≤ 9 * length es
unfolding edges_bytes
edges_most v t l i [] few h = omega arith
edges_most v t l i (e ∷ es) few h =
    let q : Passes (edge_rows v t l e) × (edges_fault v e.tail (e.head + 1) (suc i) es ≡ none) = edge_clear v t l i e es h in
    let w : EdgeWithin v e = passes_within v t l e q.0 in
    omega (
      arith,
      length-append (edge_bytes t e) (edges_bytes e.tail es),
      edge_most t e (omega (arith, w.tail)) (omega (arith, w.head)) w.class,
      edges_most v e.tail (e.head + 1) (suc i) es few q.1,
    )

pub plan_most : (s : List ℕ) (v : ℕ) (es : List Edge) → Bytes s → decode s ≡ accepted v es → length s ≤ 5 + 9 * length es
unfolding bytes_of
plan_most s v es f h =
    let w : Whole s v es = whole s v es h in
    omega (
      arith,
      ap length (w.bytes f),
      length-append (encode plan_groups v) (encode plan_groups (length es) ++ edges_bytes 0 es),
      length-append (encode plan_groups (length es)) (edges_bytes 0 es),
      header_most v (length es) w.vertices w.edges,
      edges_most v 0 0 0 es w.vertices w.passes,
    )

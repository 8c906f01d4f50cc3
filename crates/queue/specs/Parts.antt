-- The words of all tables' heaps in one slice, 3V for each table, one after another, and a count of entries for each: for contracts inside the planner call, nothing that a reader must believe.
use Rattle.std.specs.Prelude.{ℕ, suc, ◌-◌, ◌*◌, ◌≤◌, ◌<◌, cond, List, ◌++◌, T, eqb, length, get_or, set, take, drop}
use Rattle.heap.specs.Heap.{Want, Heap}

-- heap memory, and how many entries each table's heap has
pub record Heaps : Type 0 where
  pub words : List ℕ
  pub counts : List ℕ

abbrev pub heaps : List ℕ → List ℕ → Heaps
heaps words counts = record { words = words; counts = counts }

-- the words of table i
unfoldable pub part_of : ℕ → ℕ → List ℕ → List ℕ
part_of v i words = take (3 * v) (drop (i * (3 * v)) words)

-- these words in their place
unfoldable pub with_part : ℕ → ℕ → List ℕ → List ℕ → List ℕ
with_part v i p words = take (i * (3 * v)) words ++ (p ++ drop (3 * v) (drop (i * (3 * v)) words))

-- table i with these words and n entries
abbrev pub with_table : ℕ → ℕ → List ℕ → ℕ → Heaps → Heaps
with_table v i p n h = heaps (with_part v i p h.words) (set h.counts i n)

-- table i of v vertices has its words and its count
pub record Tabled (v i : ℕ) (h : Heaps) : Type 0 where
  pub count : i < length h.counts
  pub room : suc i * (3 * v) ≤ length h.words

-- the first k tables have heaps without entries
pub record Cleared (v k : ℕ) (h : Heaps) : Type 0 where
  pub empty : (i : ℕ) → i < k → (a : Want) → ((s : ℕ) → s < v → T (a.inside s) → ⊥) → Heap v a (get_or h.counts i 0) (part_of v i h.words)

-- the numbers of inadmissible heuristic i (guide sheet i) among the flat sheets, v numbers each
unfoldable pub sheet : ℕ → ℕ → List ℕ → List ℕ
sheet v i sheets = take v (drop ((i - 1) * v) sheets)

-- the numbers of table i: the anchor's, or those of guide i
unfoldable pub table_of : ℕ → List ℕ → List ℕ → ℕ → List ℕ
table_of v anchor sheets i = cond (eqb i 0) anchor (sheet v i sheets)

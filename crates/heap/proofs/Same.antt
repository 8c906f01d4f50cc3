-- A heap is one of whatever wants the same of its vertices; and one without entries, where no vertex stands anywhere, so where all are cleared.
use mathlib.Core.Path.{◌≡◌, sym, ◌∙◌}
use mathlib.Core.List.{List}
use Prim.Native.Nat.{ℕ, zero, suc, ◌≤◌, ◌<◌}
use native.Mathlib.Omega.{arith}
use lib.Dec.{T}
use lib.ListN.{length}
use lib.Seq.{get_or-set_same, get_or-set_other}
use Rattle.search.proofs.Tools.{same_cases}
use Rattle.heap.proofs.Lengths.{length_cleared}
use Rattle.heap.specs.Words.{nowhere, vertex_of, pos_at, entry_at, cleared}
use Rattle.heap.specs.Heap.{Want, Heap}

-- the same of the vertices below v
pub record Alike (v : ℕ) (a a' : Want) : Type 0 where
  pub inside : (s : ℕ) → s < v → a'.inside s ≡ a.inside s
  pub entry : (s : ℕ) → s < v → T (a.inside s) → a'.entry s ≡ a.entry s

pub heap_alike : (v : ℕ) (a a' : Want) (n : ℕ) (w : List ℕ) → Alike v a a' → Heap v a n w → Heap v a' n w
heap_alike v a a' n w k y =
    record {
      holds =
          record {
            each = λ j l.
                let z = y.holds.each j l in
                record {
                  small = z.small;
                  inside = rw (k.inside (vertex_of (entry_at v w j)) z.small) z.inside;
                  is = z.is ∙ sym (k.entry (vertex_of (entry_at v w j)) z.small z.inside);
                  stands = z.stands;
                };
            there = λ s l t. y.holds.there s l (rw (k.inside s l) at t);
            away = λ s l t. y.holds.away s l (rw (k.inside s l) at t);
          };
      ordered = y.ordered;
    }

pub heap_empty : (v : ℕ) (a : Want) (w : List ℕ) → ((s : ℕ) → s < v → T (a.inside s) → ⊥) → ((s : ℕ) → s < v → pos_at w s ≡ nowhere) → Heap v a 0 w
heap_empty v a w out gone =
    record {
      holds =
          record {
            each = λ j l. absurd (omega arith);
            there = λ s l t. absurd (out s l t);
            away = λ s l t. gone s l;
          };
      ordered = λ i j b l. absurd (omega arith);
    }

cleared_stands : (v : ℕ) (w : List ℕ) → v ≤ length w → (s : ℕ) → s < v → pos_at (cleared v w) s ≡ nowhere
unfolding cleared pos_at
cleared_stands zero w r s l = absurd (omega arith)
cleared_stands (suc v) w r s l =
    same_cases s v (λ e. rw e (get_or-set_same (cleared v w) v nowhere 0 (omega (arith, length_cleared v w))))
    (λ ne. get_or-set_other (cleared v w) v s nowhere 0 ne ∙ cleared_stands v w (omega arith) s (omega arith))

pub cleared_heap : (v : ℕ) (a : Want) (w : List ℕ) → v ≤ length w → ((s : ℕ) → s < v → T (a.inside s) → ⊥) → Heap v a 0 (cleared v w)
cleared_heap v a w r out = heap_empty v a (cleared v w) out (cleared_stands v w r)

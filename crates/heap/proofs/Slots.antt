-- An entry put into the words of a heap: what its slots and positions are then.
use mathlib.Core.Path.{◌≡◌, ◌∙◌}
use mathlib.Core.Logic.{◌≢◌}
use mathlib.Core.List.{List}
use Prim.Native.Nat.{ℕ, ◌+◌, ◌*◌, ◌/◌, ◌%◌, ◌≤◌, ◌<◌}
use native.Mathlib.Omega.{arith}
use lib.ListN.{length, get_or, set, length-set}
use lib.Seq.{get_or-set_same, get_or-set_other}
use Rattle.heap.specs.Words.{word, nowhere, vertex_of, pos_at, entry_at, put}
use Rattle.heap.proofs.Contents.{Puts, Drops}

module _ (v : ℕ) (w : List ℕ) where
  pub length_put : (j e : ℕ) → length (put v w j e) ≡ length w
  unfolding put
  length_put j e = simp length-set

  module _ (j e : ℕ) (small : vertex_of e < v) (l : v + 2 * j + 1 < length w) where
    -- with the low word stored, then the high one
    abbrev w₁ : List ℕ
    w₁ = set w (v + 2 * j) (e % word)

    abbrev w₂ : List ℕ
    w₂ = set w₁ (v + 2 * j + 1) (e / word)

    lo : get_or (put v w j e) (v + 2 * j) 0 ≡ e % word
    unfolding put
    lo =
        get_or-set_other w₂ (vertex_of e) (v + 2 * j) j 0 (λ q. omega arith)
        ∙ get_or-set_other w₁ (v + 2 * j + 1) (v + 2 * j) (e / word) 0 (λ q. omega arith)
        ∙ get_or-set_same w (v + 2 * j) (e % word) 0 (omega arith)

    hi : get_or (put v w j e) (v + 2 * j + 1) 0 ≡ e / word
    unfolding put
    hi =
        get_or-set_other w₂ (vertex_of e) (v + 2 * j + 1) j 0 (λ q. omega arith)
        ∙ get_or-set_same w₁ (v + 2 * j + 1) (e / word) 0 (simp length-set l)

    pub put_entry : entry_at v (put v w j e) j ≡ e
    unfolding entry_at
    put_entry = rw (lo, hi) (omega arith)

    other_word : (k : ℕ) → v ≤ k → k ≢ v + 2 * j → k ≢ v + 2 * j + 1 → get_or (put v w j e) k 0 ≡ get_or w k 0
    unfolding put
    other_word k h n o =
        get_or-set_other w₂ (vertex_of e) k j 0 (λ q. omega arith)
        ∙ get_or-set_other w₁ (v + 2 * j + 1) k (e / word) 0 o
        ∙ get_or-set_other w (v + 2 * j) k (e % word) 0 n

    pub put_others : (k : ℕ) → k ≢ j → entry_at v (put v w j e) k ≡ entry_at v w k
    unfolding entry_at
    put_others k n =
        rw (other_word (v + 2 * k) (omega arith) (λ q. omega arith) (λ q. omega arith), other_word (v + 2 * k + 1) (omega arith) (λ q. omega arith) (λ q. omega arith))

    pub put_stands : pos_at (put v w j e) (vertex_of e) ≡ j
    unfolding pos_at put
    put_stands =
        get_or-set_same w₂ (vertex_of e) j 0 (simp length-set (omega arith))

    pub put_positions : (u : ℕ) → u < v → u ≢ vertex_of e → pos_at (put v w j e) u ≡ pos_at w u
    unfolding pos_at put
    put_positions u h n =
        get_or-set_other w₂ (vertex_of e) u j 0 n
        ∙ get_or-set_other w₁ (v + 2 * j + 1) u (e / word) 0 (λ q. omega arith)
        ∙ get_or-set_other w (v + 2 * j) u (e % word) 0 (λ q. omega arith)

    pub puts : Puts v (entry_at v w) (pos_at w) (entry_at v (put v w j e)) (pos_at (put v w j e)) j e
    puts = record { at = put_entry; keeps = put_others; stands = put_stands; others = put_positions }

  module _ (s : ℕ) (h : s < v) (l : s < length w) where
    pub drops : Drops v (pos_at w) (pos_at (set w s nowhere)) s
    unfolding pos_at
    drops = record { gone = get_or-set_same w s nowhere 0 l; others = λ u k n. get_or-set_other w s u nowhere 0 n }

    pub drop_entry : (j : ℕ) → entry_at v (set w s nowhere) j ≡ entry_at v w j
    unfolding entry_at
    drop_entry j = rw (get_or-set_other w s (v + 2 * j) nowhere 0 (λ q. omega arith), get_or-set_other w s (v + 2 * j + 1) nowhere 0 (λ q. omega arith))

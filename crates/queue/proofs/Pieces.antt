-- The words of one table: changed, they are what was put there, and those of every other table stay.
use mathlib.Core.Path.{◌≡◌, sym, ap, ◌∙◌}
use mathlib.Core.Logic.{◌≢◌}
use mathlib.Core.List.{List, ◌++◌}
use Prim.Native.Nat.{ℕ, suc, ◌+◌, ◌-◌, ◌*◌, ◌≤◌, ◌<◌}
use native.Mathlib.Nat.{mul-le-mul_right}
use native.Mathlib.Omega.{arith}
use lib.ListN.{length, get_or, take, drop, length-append, length-take, length-drop, get_or-append}
use lib.Seq.{take_at, drop_at, get_or-append-add, get_or-take, get_or-drop, ext_get_or, length-take-le, get_or-set_same, get_or-set_other}
use Rattle.search.proofs.Tools.{le_cases}
use Rattle.queue.specs.Parts.{Heaps, part_of, with_part, with_table, Tabled}

pub span : (a b : ℕ) → a + b - a ≡ b
span a b = omega arith

module _ (v i : ℕ) (words : List ℕ) (room : suc i * (3 * v) ≤ length words) where
  abbrev a : ℕ
  a = i * (3 * v)

  ends : a + 3 * v ≤ length words
  ends = omega arith

  front : length (take a words) ≡ a
  front = length-take-le a words (omega (arith, ends))

  pub length_part : length (part_of v i words) ≡ 3 * v
  unfolding part_of
  length_part = length-take-le (3 * v) (drop a words) (simp length-drop (omega (arith, ends)))

  module _ (p : List ℕ) (sized : length p ≡ 3 * v) where
    pub part_same : part_of v i (with_part v i p words) ≡ p
    unfolding part_of with_part
    part_same = rw (drop_at (take a words) (p ++ drop (3 * v) (drop a words)) a front) (take_at p (drop (3 * v) (drop a words)) (3 * v) sized)

    pub length_with : length (with_part v i p words) ≡ length words
    unfolding with_part
    length_with = simp (length-append, length-drop, front, sized) (omega (arith, ends))

    -- a word outside the part
    before : (k : ℕ) → k < a → get_or (with_part v i p words) k 0 ≡ get_or words k 0
    unfolding with_part
    before k l =
        get_or-append (take a words) (p ++ drop (3 * v) (drop a words)) 0 k (rw front l) ∙ get_or-take a words k 0 l

    behind : (k : ℕ) → get_or (with_part v i p words) (a + (3 * v + k)) 0 ≡ get_or words (a + (3 * v + k)) 0
    unfolding with_part
    behind k =
        ap (λ (z : ℕ). get_or (take a words ++ (p ++ drop (3 * v) (drop a words))) (z + (3 * v + k)) 0) (sym front)
        ∙ get_or-append-add (take a words) (p ++ drop (3 * v) (drop a words)) (3 * v + k) 0
        ∙ ap (λ (z : ℕ). get_or (p ++ drop (3 * v) (drop a words)) (z + k) 0) (sym sized)
        ∙ get_or-append-add p (drop (3 * v) (drop a words)) k 0
        ∙ get_or-drop (3 * v) (drop a words) k 0
        ∙ get_or-drop a words (3 * v + k) 0

    module _ (j : ℕ) (ne : j ≢ i) (room' : suc j * (3 * v) ≤ length words) where
      word_stays : (k : ℕ) → k < 3 * v → get_or (with_part v i p words) (j * (3 * v) + k) 0 ≡ get_or words (j * (3 * v) + k) 0
      word_stays k l =
          le_cases (suc j) i
          (λ q. before (j * (3 * v) + k) (omega (arith, mul-le-mul_right (3 * v) q)))
          (λ q.
          let m : suc i * (3 * v) ≤ j * (3 * v) = mul-le-mul_right (3 * v) (omega arith) in
          let r : ℕ = j * (3 * v) + k - (i * (3 * v) + 3 * v) in
          let e : j * (3 * v) + k ≡ i * (3 * v) + (3 * v + r) = omega arith in
          rw e (behind r))

      pub part_other : part_of v j (with_part v i p words) ≡ part_of v j words
      unfolding part_of
      part_other =
          ext_get_or 0 (take (3 * v) (drop (j * (3 * v)) (with_part v i p words))) (take (3 * v) (drop (j * (3 * v)) words))
          (simp (length-take, length-drop, length_with))
          (λ k l.
          let h : k < 3 * v = omega (arith, length-take (3 * v) (drop (j * (3 * v)) (with_part v i p words)), l) in
          get_or-take (3 * v) (drop (j * (3 * v)) (with_part v i p words)) k 0 h
          ∙ get_or-drop (j * (3 * v)) (with_part v i p words) k 0
          ∙ word_stays k h
          ∙ sym (get_or-drop (j * (3 * v)) words k 0)
          ∙ sym (get_or-take (3 * v) (drop (j * (3 * v)) words) k 0 h))

-- ---- a table's words and its count, after a change of table i

module _ (v i : ℕ) (h : Heaps) (there : Tabled v i h) (p : List ℕ) (sized : length p ≡ 3 * v) (n : ℕ) where
  abbrev h' : Heaps
  h' = with_table v i p n h

  pub table_words : part_of v i h'.words ≡ p
  table_words = part_same v i h.words there.room p sized

  pub table_count : get_or h'.counts i 0 ≡ n
  table_count = get_or-set_same h.counts i n 0 there.count

  pub words_length : length h'.words ≡ length h.words
  words_length = length_with v i h.words there.room p sized

  module _ (j : ℕ) (ne : j ≢ i) (there' : Tabled v j h) where
    pub other_words : part_of v j h'.words ≡ part_of v j h.words
    other_words = part_other v i h.words there.room p sized j ne there'.room

    pub other_count : get_or h'.counts j 0 ≡ get_or h.counts j 0
    other_count = get_or-set_other h.counts i j n 0 ne

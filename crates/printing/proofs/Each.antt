-- Laws of the texts of a list's elements written one after another: none, one more, and all.
use Prim.Native.Nat.{ℕ, zero, suc, ◌+◌, ◌<◌, ◌≤◌}
use native.Mathlib.Numerals.{add-one}
use native.Mathlib.Omega.{arith}
use mathlib.Core.Path.{◌≡◌, sym, ap, ◌∙◌}
use mathlib.Core.List.{List, [], ◌∷◌, ◌++◌, append_assoc, append-nil}
use lib.ListN.{length, get_or, take, length-append}
use lib.Seq.{take-suc, take_all, length-take-le}
use Rattle.text.specs.Laid.{Counted}
use Rattle.text.specs.Text.{each}
use Rattle.printing.specs.declared.writer.Writer.{Writer}
use Rattle.printing.specs.Writing.{Wrote}
use Rattle.printing.proofs.Writing.{wrote_nil, then_wrote}

module _ (f : ℕ → ℕ → List ℕ) where
  -- one more at the end
  each_snoc : (k : ℕ) (a : List ℕ) (x : ℕ) → each f k (a ++ (x ∷ [])) ≡ each f k a ++ f (k + length a) x
  unfolding each
  each_snoc k [] x = append-nil (f k x) ∙ ap (λ (n : ℕ). f n x) (omega arith)
  each_snoc k (y ∷ a) x =
      let e : suc k + length a ≡ k + suc (length a) = omega arith in
      ap (λ (l : List ℕ). f k y ++ l) (each_snoc (suc k) a x ∙ ap (λ (n : ℕ). each f (suc k) a ++ f n x) e)
      ∙ sym (append_assoc (f k y) (each f (suc k) a) (f (k + suc (length a)) x))

  -- fewer elements are no longer a text
  each_fewer : (k i : ℕ) (xs : List ℕ) → length (each f k (take i xs)) ≤ length (each f k xs)
  unfolding each
  each_fewer k zero xs = omega arith
  each_fewer k (suc i) [] = omega arith
  each_fewer k (suc i) (x ∷ xs) = simp length-append (omega (arith, each_fewer (suc k) i xs))

  module _ (k i : ℕ) (xs : List ℕ) (h : i < length xs) where
    each_next : each f k (take (i + 1) xs) ≡ each f k (take i xs) ++ f (k + i) (get_or xs i 0)
    each_next =
        rw (add-one i, take-suc xs i 0 h)
        (each_snoc k (take i xs) (get_or xs i 0)
        ∙ ap (λ (n : ℕ). each f k (take i xs) ++ f (k + n) (get_or xs i 0)) (length-take-le i xs (omega arith)))

    -- one more written
    pub next_each :
        {old mid new : Writer} → Wrote (each f k (take i xs)) old mid → Wrote (f (k + i) (get_or xs i 0)) mid new →
        Wrote (each f k (take (i + 1) xs)) old new
    next_each first second = rw each_next (then_wrote first second)

    -- it ends where all do, or before
    pub each_counted :
        {old mid : Writer} → Wrote (each f k (take i xs)) old mid → Counted old.at (each f k xs) → Counted mid.at (f (k + i) (get_or xs i 0))
    each_counted first p =
        omega (
          arith,
          first.put.next,
          ap length each_next,
          length-append (each f k (take i xs)) (f (k + i) (get_or xs i 0)),
          each_fewer k (i + 1) xs,
        )

  -- none written
  pub none_each : (k : ℕ) (w : Writer) → Wrote (each f k []) w w
  unfolding each
  none_each k w = wrote_nil w

  -- all written
  pub all_each : (k i : ℕ) (xs : List ℕ) {old new : Writer} → length xs ≤ i → Wrote (each f k (take i xs)) old new → Wrote (each f k xs) old new
  all_each k i xs h w = rw (take_all i xs h) at w

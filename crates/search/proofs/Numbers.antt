-- The numbers of the elements that pass a test: they rise, and an element's number is one of them exactly if it passes.
use mathlib.Core.Path.{◌≡◌, refl, ap, ◌∙◌, subst}
use mathlib.Core.Bool.{Bool, true, false, cond}
use mathlib.Core.List.{List, [], ◌∷◌, ◌++◌, Memᴰ}
use Prim.Native.Nat.{ℕ, zero, suc, ◌+◌, ◌≤◌, ◌<◌}
use native.Mathlib.Nat.{not-suc-le-zero, le_of_suc-le-suc, add-zero}
use native.Mathlib.Omega.{arith}
use lib.ListN.{length, get_or}
use Rattle.search.specs.Reason.{numbers_of, Rises}

-- element number j, counted from k on, passes
pub record Passes {A : Type 0} (test : A → Bool) (k : ℕ) (xs : List A) (j : ℕ) : Type 0 where
  pub place : ℕ
  pub is : j ≡ k + place
  pub number : place < length xs
  pub passes : (d : A) → test (get_or xs place d) ≡ true

module _ {A : Type 0} (test : A → Bool) where
  -- ---- one more in front

  passes_later : (k : ℕ) (x : A) (xs : List A) (j : ℕ) → Passes test (suc k) xs j → Passes test k (x ∷ xs) j
  passes_later k x xs j p =
      record { place = suc p.place; is = omega (arith, p.is); number = omega (arith, p.number); passes = p.passes }

  -- ---- whose numbers they are

  pub numbers_pass : (k : ℕ) (xs : List A) (j : ℕ) → Memᴰ j (numbers_of test k xs) → Passes test k xs j
  unfolding numbers_of
  numbers_pass k [] j = elim [ ]
  numbers_pass k (x ∷ xs) j = λ m. by (test x) refl m (numbers_pass (suc k) xs j)
    where
      by : (t : Bool) → test x ≡ t → Memᴰ j (cond t (k ∷ numbers_of test (suc k) xs) (numbers_of test (suc k) xs)) →
          (Memᴰ j (numbers_of test (suc k) xs) → Passes test (suc k) xs j) → Passes test k (x ∷ xs) j
      by true e (Memᴰ.head q) f = record { place = 0; is = omega (arith, q); number = omega arith; passes = λ d. e }
      by true e (Memᴰ.tail n) f = passes_later k x xs j (f n)
      by false e n f = passes_later k x xs j (f n)

  pub pass_numbers : (k : ℕ) (xs : List A) (i : ℕ) (d : A) → i < length xs → test (get_or xs i d) ≡ true → Memᴰ (k + i) (numbers_of test k xs)
  unfolding numbers_of
  pass_numbers k [] i d h t = absurd (not-suc-le-zero h)
  pass_numbers k (x ∷ xs) zero d h t = rw t (Memᴰ.head (add-zero k))
  pass_numbers k (x ∷ xs) (suc i) d h t = by (test x) (subst (λ (n : ℕ). Memᴰ n (numbers_of test (suc k) xs)) (omega arith) (pass_numbers (suc k) xs i d (le_of_suc-le-suc h) t))
    where
      by : (b : Bool) → Memᴰ (k + suc i) (numbers_of test (suc k) xs) →
          Memᴰ (k + suc i) (cond b (k ∷ numbers_of test (suc k) xs) (numbers_of test (suc k) xs))
      by true m = Memᴰ.tail m
      by false m = m

  -- ---- their order and their count

  record Upward (k : ℕ) (l : List ℕ) : Type 0 where
    pub from : (i : ℕ) → i < length l → k ≤ get_or l i 0
    pub rises : Rises l

  upward_later : {k : ℕ} {l : List ℕ} → Upward (suc k) l → Upward k l
  upward_later u = record { from = λ i h. omega (arith, u.from i h); rises = u.rises }

  upward_more : {k : ℕ} {l : List ℕ} → Upward (suc k) l → Upward k (k ∷ l)
  upward_more {k} {l} u = record { from = least; rises = next }
    where
      least : (i : ℕ) → i < length (k ∷ l) → k ≤ get_or (k ∷ l) i 0
      least zero h = omega arith
      least (suc i) h = omega (arith, u.from i (le_of_suc-le-suc h))

      next : (i : ℕ) → suc i < length (k ∷ l) → get_or (k ∷ l) i 0 < get_or (k ∷ l) (suc i) 0
      next zero h = u.from 0 (le_of_suc-le-suc h)
      next (suc i) h = u.rises i (le_of_suc-le-suc h)

  upward : (k : ℕ) (xs : List A) → Upward k (numbers_of test k xs)
  unfolding numbers_of
  upward k [] = record { from = λ i h. absurd (not-suc-le-zero h); rises = λ i h. absurd (not-suc-le-zero h) }
  upward k (x ∷ xs) = by (test x) (upward (suc k) xs)
    where
      by : (t : Bool) → Upward (suc k) (numbers_of test (suc k) xs) → Upward k (cond t (k ∷ numbers_of test (suc k) xs) (numbers_of test (suc k) xs))
      by true u = upward_more u
      by false u = upward_later u

  pub numbers_rise : (k : ℕ) (xs : List A) → Rises (numbers_of test k xs)
  numbers_rise k xs = (upward k xs).rises

  pub numbers_few : (k : ℕ) (xs : List A) → length (numbers_of test k xs) ≤ length xs
  unfolding numbers_of
  numbers_few k [] = omega arith
  numbers_few k (x ∷ xs) = by (test x) (numbers_few (suc k) xs)
    where
      by : (t : Bool) → length (numbers_of test (suc k) xs) ≤ length xs →
          length (cond t (k ∷ numbers_of test (suc k) xs) (numbers_of test (suc k) xs)) ≤ suc (length xs)
      by true h = omega (arith, h)
      by false h = omega (arith, h)

  -- ---- one list after another

  pub numbers_append : (k : ℕ) (xs ys : List A) → numbers_of test k (xs ++ ys) ≡ numbers_of test k xs ++ numbers_of test (k + length xs) ys
  unfolding numbers_of
  numbers_append k [] ys = rw add-zero
  numbers_append k (x ∷ xs) ys = by (test x) (numbers_append (suc k) xs ys ∙ ap (λ (n : ℕ). numbers_of test (suc k) xs ++ numbers_of test n ys) (omega arith))
    where
      by : (t : Bool) → numbers_of test (suc k) (xs ++ ys) ≡ numbers_of test (suc k) xs ++ numbers_of test (k + suc (length xs)) ys →
          cond t (k ∷ numbers_of test (suc k) (xs ++ ys)) (numbers_of test (suc k) (xs ++ ys))
          ≡ cond t (k ∷ numbers_of test (suc k) xs) (numbers_of test (suc k) xs) ++ numbers_of test (k + suc (length xs)) ys
      by true e = ap (λ (l : List ℕ). k ∷ l) e
      by false e = e

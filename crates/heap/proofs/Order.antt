-- The order of a heap: its first entry is least; an entry and one beside it in order change places.
use mathlib.Core.Path.{◌≡◌, ap}
use mathlib.Core.Logic.{◌≢◌}
use Prim.Native.Nat.{ℕ, zero, suc, ◌*◌, ◌≤◌, ◌<◌}
use native.Mathlib.Nat.{le_refl, le_trans}
use native.Mathlib.Omega.{arith}
use Rattle.search.proofs.Tools.{same_cases}
use Rattle.heap.specs.Heap.{Below, Ordered, Loose, Over, Under}

-- ---- the first entry is least

-- the slot above
record Above (j : ℕ) : Type 0 where
  pub slot : ℕ
  pub is : Below slot j

-- j is 2k or 2k + 1
data Half : ℕ → Type 0 where
  even : (k : ℕ) → Half (2 * k)
  odd : (k : ℕ) → Half (suc (2 * k))

half : (j : ℕ) → Half j
half zero = even 0
half (suc j) = next (half j)
  where
    next : {i : ℕ} → Half i → Half (suc i)
    next (even k) = odd k
    next (odd k) = let e : 2 * suc k ≡ suc (suc (2 * k)) = omega arith in rw (← e) (even (suc k))

above_of : (j : ℕ) → Above (suc j)
above_of j = by (half j)
  where
    by : {i : ℕ} → Half i → Above (suc i)
    by (even k) = record { slot = k; is = record { low = omega arith; high = omega arith } }
    by (odd k) = record { slot = k; is = record { low = omega arith; high = omega arith } }

module _ (n : ℕ) (h : ℕ → ℕ) (o : Ordered n h) where
  least_by : (k j : ℕ) → j < k → j < n → h 0 ≤ h j
  least_by zero j l m = absurd (omega arith)
  least_by (suc k) j l m = by j l m (least_by k)
    where
      by : (j : ℕ) → j < suc k → j < n → ((i : ℕ) → i < k → i < n → h 0 ≤ h i) → h 0 ≤ h j
      by zero l m f = le_refl _
      by (suc j) l m f =
          let u : Above (suc j) = above_of j in
          let b : Below u.slot (suc j) = u.is in
          le_trans (f u.slot (omega arith) (omega arith)) (o u.slot (suc j) b m)

  pub root_least : (j : ℕ) → j < n → h 0 ≤ h j
  root_least j m = least_by (suc j) j (le_refl _) m

-- ---- one slot out of order

module _ (n : ℕ) (h : ℕ → ℕ) (x : ℕ) (l : Loose n h x) where
  -- in order with those above and below it
  pub tight : Over h x → Under n h x → Ordered n h
  tight o u i j b m = same_cases i x (λ e. rw e (u j (rw e at b) m)) (λ ne. same_cases j x (λ e. rw e (o i (rw e at b))) (λ ne'. l.rest i j b m ne ne'))

-- the entries at x and y change places
pub record Swapped (h h' : ℕ → ℕ) (x y : ℕ) : Type 0 where
  pub at_x : h' x ≡ h y
  pub at_y : h' y ≡ h x
  pub other : (j : ℕ) → j ≢ x → j ≢ y → h' j ≡ h j

one_above : (i k j : ℕ) → Below i j → Below k j → i ≡ k
one_above i k j b c = omega arith

module _ (n : ℕ) (h h' : ℕ → ℕ) (x y : ℕ) (l : Loose n h x) (s : Swapped h h' x y) where
  -- ---- down: y is the cheaper of those below x

  module _ (b : Below x y) (m : y < n) (c : (j : ℕ) → Below x j → j < n → h y ≤ h j) (k : h y < h x) where
    sink_rest : (i j : ℕ) → Below i j → j < n → i ≢ y → j ≢ y → h' i ≤ h' j
    sink_rest i j d q ni nj =
        same_cases i x
        (λ e. omega (arith, s.at_x, ap h' e, s.other j (omega arith) nj, c j (rw e at d) q))
        (λ ne. same_cases j x
        (λ e. omega (arith, s.at_x, ap h' e, s.other i ne ni, l.past i y (rw e at d) b m))
        (λ nf. omega (arith, s.other i ne ni, s.other j nf nj, l.rest i j d q ne nf)))

    pub sink_loose : Loose n h' y
    sink_loose =
        record {
          rest = sink_rest;
          past = λ i j d f q.
              let e : i ≡ x = one_above i x y d b in
              omega (arith, ap h' e, s.at_x, s.other j (omega arith) (omega arith), l.rest y j f q (omega arith) (omega arith));
        }

    pub sink_over : Over h' y
    sink_over i d = let e : i ≡ x = one_above i x y d b in omega (arith, ap h' e, s.at_x, s.at_y)

  -- ---- up: y is the one above x

  module _ (b : Below y x) (m : x < n) (u : Under n h x) (k : h x < h y) where
    rise_rest : (i j : ℕ) → Below i j → j < n → i ≢ y → j ≢ y → h' i ≤ h' j
    rise_rest i j d q ni nj =
        same_cases j x
        (λ e. absurd (ni (one_above i y x (rw e at d) b)))
        (λ ne. same_cases i x
        (λ e. omega (arith, ap h' e, s.at_x, s.other j ne nj, l.past y j b (rw e at d) q))
        (λ nf. omega (arith, s.other i nf ni, s.other j ne nj, l.rest i j d q nf ne)))

    rise_past : (i j : ℕ) → Below i y → Below y j → j < n → h' i ≤ h' j
    rise_past i j d f q =
        let a : h i ≤ h y = l.rest i y d (omega arith) (omega arith) (omega arith) in
        same_cases j x
        (λ e. omega (arith, ap h' e, s.at_x, s.other i (omega arith) (omega arith)))
        (λ ne. omega (arith, s.other i (omega arith) (omega arith), s.other j ne (omega arith), l.rest y j f q (omega arith) ne))

    pub rise_loose : Loose n h' y
    rise_loose = record { rest = rise_rest; past = rise_past }

    pub rise_under : Under n h' y
    rise_under j f q =
        same_cases j x
        (λ e. omega (arith, ap h' e, s.at_x, s.at_y))
        (λ ne. omega (arith, s.at_y, s.other j ne (omega arith), l.rest y j f q (omega arith) ne))

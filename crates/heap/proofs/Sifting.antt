-- Sifting makes a heap of one that is nearly one: down, over the levels left, and up. Both rest on one exchange of two entries.
use mathlib.Core.Path.{◌≡◌, refl, sym, ap, ◌∙◌, subst}
use mathlib.Core.Logic.{◌≢◌}
use mathlib.Core.Bool.{Bool, true, false, cond, not}
use mathlib.Core.List.{List}
use Prim.Native.Nat.{ℕ, zero, suc, ◌+◌, ◌*◌, ◌≤◌, ◌<◌}
use native.Mathlib.Nat.{le_refl, le_trans}
use native.Mathlib.Omega.{arith}
use lib.ListN.{length}
use lib.Dec.{T, ltb, leb, eqb}
use mir.Facts.{ltb_yes, ltb_no, leb_yes, leb_no, eqb_yes, eqb_no}
use Rattle.search.proofs.Tools.{cond_ind, same_cases}
use Rattle.heap.specs.Words.{vertex_of, pos_at, entry_at, put, child_of, sunk, above, cheaper_at, risen}
use Rattle.heap.specs.Heap.{Want, Holds, Below, Loose, Over, Under, Heap}
use Rattle.heap.proofs.Order.{Swapped, tight, sink_loose, sink_over, rise_loose, rise_under}
use Rattle.heap.proofs.Contents.{apart, swapped_holds}
use Rattle.heap.proofs.Slots.{length_put, put_entry, put_others, put_stands, put_positions}

-- e, put at slot j, would make the heap but for the order there; and what the code asks
pub record Nearly (v : ℕ) (a : Want) (n j e : ℕ) (w : List ℕ) : Type 0 where
  pub inside : j < n
  pub small : vertex_of e < v
  pub fit : n ≤ v
  pub room : 3 * v ≤ length w
  pub holds : Holds v a n (entry_at v (put v w j e)) (pos_at (put v w j e))
  pub loose : Loose n (entry_at v (put v w j e)) j

-- no entry of n is more than k levels below slot j
unfoldable pub spans : ℕ → ℕ → ℕ
spans zero j = suc j
spans (suc k) j = spans k (2 * j + 1)

-- no slot below it is more than k levels below the first
unfoldable pub reaches : ℕ → ℕ
reaches zero = 1
reaches (suc k) = 2 * reaches k

-- ---- the exchange

module _ (v : ℕ) (a : Want) (n j e : ℕ) (w : List ℕ) (y : Nearly v a n j e w) (c : ℕ) (lc : c < n) (ne : j ≢ c) where
  -- with e put at slot j
  abbrev h : ℕ → ℕ
  h = entry_at v (put v w j e)

  abbrev p : ℕ → ℕ
  p = pos_at (put v w j e)

  -- entry c moved to slot j
  abbrev w₁ : List ℕ
  w₁ = put v w j (entry_at v w c)

  abbrev h' : ℕ → ℕ
  h' = entry_at v (put v w₁ c e)

  abbrev p' : ℕ → ℕ
  p' = pos_at (put v w₁ c e)

  inj : v + 2 * j + 1 < length w
  inj = omega (arith, y.inside, y.fit, y.room)

  room₁ : length w₁ ≡ length w
  room₁ = length_put v w j (entry_at v w c)

  inc : v + 2 * c + 1 < length w₁
  inc = omega (arith, room₁, y.fit, y.room)

  at_j : h j ≡ e
  at_j = put_entry v w j e y.small inj

  at_other : (k : ℕ) → k ≢ j → h k ≡ entry_at v w k
  at_other k nk = put_others v w j e y.small inj k nk

  at_c : h c ≡ entry_at v w c
  at_c = at_other c (λ q. ne (sym q))

  small_c : vertex_of (entry_at v w c) < v
  small_c = subst (λ (x : ℕ). vertex_of x < v) at_c (y.holds.each c lc).small

  differ : vertex_of (entry_at v w c) ≢ vertex_of e
  differ q = ne (sym (apart v a n h p y.holds c j lc y.inside (ap vertex_of at_c ∙ q ∙ ap vertex_of (sym at_j))))

  at₁_j : entry_at v w₁ j ≡ entry_at v w c
  at₁_j = put_entry v w j (entry_at v w c) small_c inj

  at₁_other : (k : ℕ) → k ≢ j → entry_at v w₁ k ≡ entry_at v w k
  at₁_other k nk = put_others v w j (entry_at v w c) small_c inj k nk

  at'_c : h' c ≡ e
  at'_c = put_entry v w₁ c e y.small inc

  at'_other : (k : ℕ) → k ≢ c → h' k ≡ entry_at v w₁ k
  at'_other k nk = put_others v w₁ c e y.small inc k nk

  exchanged : Swapped h h' j c
  exchanged =
      record {
        at_x = at'_other j ne ∙ at₁_j ∙ sym at_c;
        at_y = at'_c ∙ sym at_j;
        other = λ k nj nc. at'_other k nc ∙ at₁_other k nj ∙ sym (at_other k nj);
      }

  moves : Holds v a n h' p'
  moves =
      swapped_holds v a n h p y.holds h' p' j c y.inside lc ne exchanged
      (ap p' (ap vertex_of at_j) ∙ put_stands v w₁ c e y.small inc)
      (ap p' (ap vertex_of at_c) ∙ put_positions v w₁ c e y.small inc (vertex_of (entry_at v w c)) small_c differ
      ∙ put_stands v w j (entry_at v w c) small_c inj)
      (λ u l ni nc.
      put_positions v w₁ c e y.small inc u l (λ q. ni (q ∙ ap vertex_of (sym at_j)))
      ∙ put_positions v w j (entry_at v w c) small_c inj u l (λ q. nc (q ∙ ap vertex_of (sym at_c)))
      ∙ sym (put_positions v w j e y.small inj u l (λ q. ni (q ∙ ap vertex_of (sym at_j)))))

  nearly_by : Loose n h' c → Nearly v a n c e w₁
  nearly_by l =
      record { inside = lc; small = y.small; fit = y.fit; room = omega (arith, room₁, y.room); holds = moves; loose = l }

  -- e goes down to c, the cheaper of those below
  module _ (b : Below j c) (least : (k : ℕ) → Below j k → k < n → entry_at v w c ≤ entry_at v w k) (lt : entry_at v w c < e) where
    cheaper : (k : ℕ) → Below j k → k < n → h c ≤ h k
    cheaper k d q = omega (arith, at_c, at_other k (λ f. omega (arith, d.low)), least k d q)

    goes_down : Nearly v a n c e w₁
    goes_down = nearly_by (sink_loose n h h' j c y.loose exchanged b lc cheaper (omega (arith, at_c, at_j)))

    down_over : Over h' c
    down_over = sink_over n h h' j c y.loose exchanged b lc cheaper (omega (arith, at_c, at_j))

  -- e goes up to c, which is above
  module _ (b : Below c j) (u : Under n h j) (lt : e < entry_at v w c) where
    goes_up : Nearly v a n c e w₁
    goes_up = nearly_by (rise_loose n h h' j c y.loose exchanged b y.inside u (omega (arith, at_c, at_j)))

    up_under : Under n h' c
    up_under = rise_under n h h' j c y.loose exchanged b y.inside u (omega (arith, at_c, at_j))

-- ---- it stays where it is

module _ (v : ℕ) (a : Want) (n j e : ℕ) (w : List ℕ) (y : Nearly v a n j e w) where
  pub put_is : entry_at v (put v w j e) j ≡ e
  put_is = put_entry v w j e y.small (omega (arith, y.inside, y.fit, y.room))

  pub put_other : (k : ℕ) → k ≢ j → entry_at v (put v w j e) k ≡ entry_at v w k
  put_other k nk = put_others v w j e y.small (omega (arith, y.inside, y.fit, y.room)) k nk

  pub stays : Over (entry_at v (put v w j e)) j → Under n (entry_at v (put v w j e)) j → Heap v a n (put v w j e)
  stays o u = record { holds = y.holds; ordered = tight n (entry_at v (put v w j e)) j y.loose o u }

-- ---- down

record Child (v : ℕ) (w : List ℕ) (n j c : ℕ) : Type 0 where
  pub below : Below j c
  pub inside : c < n
  pub least : (k : ℕ) → Below j k → k < n → entry_at v w c ≤ entry_at v w k

child_is : (v : ℕ) (w : List ℕ) (n j : ℕ) → 2 * j + 1 < n → Child v w n j (child_of v w n (2 * j + 1))
unfolding child_of
child_is v w n j l =
    cond_ind (λ (c : ℕ). Child v w n j c) (ltb (2 * j + 1 + 1) n)
    (λ t.
    let r : 2 * j + 1 + 1 < n = ltb_yes t in
    cond_ind (λ (c : ℕ). Child v w n j c) (ltb (entry_at v w (2 * j + 1 + 1)) (entry_at v w (2 * j + 1)))
    (λ t'.
    let lt : entry_at v w (2 * j + 1 + 1) < entry_at v w (2 * j + 1) = ltb_yes t' in
    record {
      below = record { low = omega arith; high = omega arith };
      inside = r;
      least = λ k d q. same_cases k (2 * j + 1) (λ f. rw f (omega arith))
          (λ nk. let f : k ≡ 2 * j + 1 + 1 = omega (arith, d.low, d.high) in rw f (le_refl _));
    })
    (λ t'.
    let le : entry_at v w (2 * j + 1) ≤ entry_at v w (2 * j + 1 + 1) = ltb_no t' in
    record {
      below = record { low = omega arith; high = omega arith };
      inside = l;
      least = λ k d q. same_cases k (2 * j + 1) (λ f. rw f (le_refl _))
          (λ nk. let f : k ≡ 2 * j + 1 + 1 = omega (arith, d.low, d.high) in rw f le);
    }))
    (λ t.
    let r : n ≤ 2 * j + 1 + 1 = ltb_no t in
    record {
      below = record { low = omega arith; high = omega arith };
      inside = l;
      least = λ k d q. let f : k ≡ 2 * j + 1 = omega (arith, d.low, d.high) in rw f (le_refl _);
    })

pub spans_le : (k i j : ℕ) → i ≤ j → spans k i ≤ spans k j
unfolding spans
spans_le zero i j l = omega arith
spans_le (suc k) i j l = spans_le k (2 * i + 1) (2 * j + 1) (omega arith)

module _ (v : ℕ) (a : Want) (n : ℕ) where
  pub sunk_heap : (k j e : ℕ) (w : List ℕ) → n ≤ spans k j → Nearly v a n j e w → Over (entry_at v (put v w j e)) j → Heap v a n (sunk v k n j e w)
  unfolding sunk spans
  sunk_heap zero j e w l y o = stays v a n j e w y o (λ i b m. absurd (omega (arith, b.low)))
  sunk_heap (suc k) j e w l y o =
      cond_ind (λ (x : List ℕ). Heap v a n x) (leb n (2 * j + 1))
      (λ t. let q : n ≤ 2 * j + 1 = leb_yes t in stays v a n j e w y o (λ i b m. absurd (omega (arith, b.low))))
      (λ t.
      let q : 2 * j + 1 < n = leb_no t in
      let c : ℕ = child_of v w n (2 * j + 1) in
      let z : Child v w n j c = child_is v w n j q in
      let ne : j ≢ c = λ f. omega (arith, z.below.low) in
      cond_ind (λ (x : List ℕ). Heap v a n x) (ltb (entry_at v w c) e)
      (λ t'.
      let lt : entry_at v w c < e = ltb_yes t' in
      sunk_heap k c e (put v w j (entry_at v w c)) (le_trans l (spans_le k (2 * j + 1) c (omega (arith, z.below.low))))
      (goes_down v a n j e w y c z.inside ne z.below z.least lt)
      (down_over v a n j e w y c z.inside ne z.below z.least lt))
      (λ t'.
      let le : e ≤ entry_at v w c = ltb_no t' in
      stays v a n j e w y o (λ i b m. omega (arith, put_is v a n j e w y, put_other v a n j e w y i (λ f. omega (arith, b.low)), z.least i b m))))

-- ---- up

module _ (v j e : ℕ) (w : List ℕ) where
  -- the slot above it, whose entry is dearer
  pub record Dearer : Type 0 where
    pub below : Below (above j) j
    pub more : e < entry_at v w (above j)

  pub cheaper_yes : T (cheaper_at v w j e) → Dearer
  unfolding cheaper_at
  cheaper_yes = by (eqb j 0) refl
    where
      by : (z : Bool) → eqb j 0 ≡ z → T (cond z false (ltb e (entry_at v w (above j)))) → Dearer
      by true q t = absurd t
      by false q t = let ne : j ≢ 0 = eqb_no (rw q tt) in record { below = record { low = omega arith; high = omega arith }; more = ltb_yes t }

  cheaper_no : T (not (cheaper_at v w j e)) → (i : ℕ) → Below i j → entry_at v w i ≤ e
  unfolding cheaper_at
  cheaper_no = by (eqb j 0) refl
    where
      by : (z : Bool) → eqb j 0 ≡ z → T (not (cond z false (ltb e (entry_at v w (above j))))) → (i : ℕ) → Below i j → entry_at v w i ≤ e
      by true q t i b = let z : j ≡ 0 = eqb_yes (rw q tt) in absurd (omega (arith, b.low))
      by false q t i b =
          let f : i ≡ above j = omega (arith, b.low, b.high) in
          let le : entry_at v w (above j) ≤ e = ltb_no t in
          rw f le

pub not_dearer : (v : ℕ) (a : Want) (n j e : ℕ) (w : List ℕ) → Nearly v a n j e w → T (not (cheaper_at v w j e)) → Over (entry_at v (put v w j e)) j
not_dearer v a n j e w y t i d =
    omega (arith, put_is v a n j e w y, put_other v a n j e w y i (λ g. omega (arith, d.low)), cheaper_no v j e w t i d)

module _ (v : ℕ) (a : Want) (n : ℕ) where
  pub risen_heap : (k j e : ℕ) (w : List ℕ) → j < reaches k → Nearly v a n j e w → Under n (entry_at v (put v w j e)) j → Heap v a n (risen v k j e w)
  unfolding risen reaches
  risen_heap zero j e w l y u = stays v a n j e w y (λ i b. absurd (omega (arith, b.low))) u
  risen_heap (suc k) j e w l y u =
      cond_ind (λ (x : List ℕ). Heap v a n x) (cheaper_at v w j e)
      (λ t.
      let d : Dearer v j e w = cheaper_yes v j e w t in
      let lc : above j < n = omega (arith, y.inside) in
      let ne : j ≢ above j = λ f. omega (arith, d.below.low) in
      risen_heap k (above j) e (put v w j (entry_at v w (above j))) (omega (arith, d.below.low))
      (goes_up v a n j e w y (above j) lc ne d.below u d.more)
      (up_under v a n j e w y (above j) lc ne d.below u d.more))
      (λ t. stays v a n j e w y (not_dearer v a n j e w y t) u)

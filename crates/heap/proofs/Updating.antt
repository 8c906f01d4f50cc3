-- An entry placed, and a vertex whose entry changes, comes in or goes: the heap of what it is to hold then.
use mathlib.Core.Path.{◌≡◌, refl, sym, ap, ◌∙◌, subst}
use mathlib.Core.Logic.{◌≢◌}
use mathlib.Core.Bool.{Bool, true, false, cond, not}
use mathlib.Core.List.{List}
use Prim.Native.Nat.{ℕ, zero, suc, ◌+◌, ◌-◌, ◌*◌, ◌≤◌, ◌<◌}
use native.Mathlib.Nat.{le_refl, le_trans}
use native.Mathlib.Omega.{arith}
use lib.ListN.{length, set, length-set}
use lib.Dec.{T, ltb, eqb, T_not}
use mir.Facts.{ltb_yes, ltb_no, eqb_yes, eqb_no}
use Rattle.search.proofs.Tools.{cond_ind, same_cases}
use Rattle.search.proofs.Pigeon.{pigeon}
use Rattle.heap.specs.Words.{nowhere, vertex_of, pos_at, entry_at, put, above, risen, levels, cheaper_at, placed, removed, updated, counted}
use Rattle.heap.specs.Heap.{Want, There, Loose, Under, Heap}
use Rattle.heap.proofs.Order.{root_least}
use Rattle.heap.proofs.Contents.{Puts, But, Drops, apart, changed_holds, inserted_holds, dropped_holds, filled_holds}
use Rattle.heap.proofs.Slots.{puts, drops, drop_entry}
use Rattle.heap.proofs.Sifting.{Nearly, spans, reaches, spans_le, sunk_heap, Dearer, cheaper_yes, not_dearer, risen_heap, put_is, put_other}

-- ---- an entry placed

far : (j : ℕ) → 4096 ≤ spans levels j
unfolding spans
far j = spans_le levels 0 j (omega arith)

pub deep : (j : ℕ) → j < 4096 → j < reaches levels
unfolding reaches
deep j l = l

module _ (v : ℕ) (a : Want) (n j e : ℕ) (w : List ℕ) (few : v ≤ 4096) (y : Nearly v a n j e w) where
  up : Under n (entry_at v (put v w j e)) j → Heap v a n (risen v levels j e w)
  up u = risen_heap v a n levels j e w (deep j (omega (arith, y.inside, y.fit))) y u

  placed_heap : Heap v a n (placed v n j e w)
  unfolding placed
  placed_heap =
      cond_ind (λ (x : List ℕ). Heap v a n x) (cheaper_at v w j e)
      (λ t.
      let z : Dearer v j e w = cheaper_yes v j e w t in
      up (λ i d m. omega (
        arith,
        z.more,
        put_is v a n j e w y,
        put_other v a n j e w y (above j) (λ f. omega (arith, z.below.low)),
        y.loose.past (above j) i z.below d m,
      )))
      (λ t. sunk_heap v a n levels j e w (omega (arith, far j, y.fit)) y (not_dearer v a n j e w y t))

-- ---- what a heap of n entries has

module _ (v : ℕ) (a : Want) (n : ℕ) (w : List ℕ) (y : Heap v a n w) where
  -- at most as many entries as vertices
  pub fits : n ≤ v
  fits = pigeon v n (λ j. vertex_of (entry_at v w j)) (λ j l. (y.holds.each j l).small) (λ i j l m e. apart v a n (entry_at v w) (pos_at w) y.holds i j l m e)

  module _ (s : ℕ) (small : s < v) where
    -- fewer where one of them is not in it
    vertex_but : ℕ → ℕ
    vertex_but j = cond (ltb j n) (vertex_of (entry_at v w j)) s

    but_in : (j : ℕ) → j < n → vertex_but j ≡ vertex_of (entry_at v w j)
    unfolding vertex_but
    but_in j l = cond_ind (λ (x : ℕ). x ≡ vertex_of (entry_at v w j)) (ltb j n) (λ t. refl) (λ t. let q : n ≤ j = ltb_no t in absurd (omega arith))

    but_out : (j : ℕ) → n ≤ j → vertex_but j ≡ s
    unfolding vertex_but
    but_out j l = cond_ind (λ (x : ℕ). x ≡ s) (ltb j n) (λ t. let q : j < n = ltb_yes t in absurd (omega arith)) (λ t. refl)

    split : {X : Type 0} (j : ℕ) → j < suc n → (j < n → X) → (j ≡ n → X) → X
    split j l f g = same_cases j n g (λ ne. f (omega arith))

    module _ (out : T (not (a.inside s))) where
      not_s : (j : ℕ) → j < n → vertex_but j ≢ s
      not_s j l e = T_not (a.inside s) out (subst (λ (x : ℕ). T (a.inside x)) (sym (but_in j l) ∙ e) (y.holds.each j l).inside)

      pub room_for : n < v
      room_for =
          pigeon v (suc n) vertex_but
          (λ j l. split j l (λ q. rw (but_in j q) (y.holds.each j q).small) (λ e. rw (but_out j (omega arith)) small))
          (λ i j l m e.
          split i l
          (λ p. split j m (λ q. apart v a n (entry_at v w) (pos_at w) y.holds i j p q (sym (but_in i p) ∙ e ∙ but_in j q))
          (λ q. absurd (not_s i p (e ∙ but_out j (omega arith)))))
          (λ p. split j m (λ q. absurd (not_s j q (sym e ∙ but_out i (omega arith)))) (λ q. p ∙ sym q)))

-- ---- a vertex

module _ (v : ℕ) (a a' : Want) (n : ℕ) (w : List ℕ) (room : 3 * v ≤ length w) (y : Heap v a n w) (s : ℕ) (small : s < v)
    (b : But s a a') where
  abbrev h : ℕ → ℕ
  h = entry_at v w

  -- ---- gets another entry, or comes in

  module _ (e : ℕ) (of : vertex_of e ≡ s) (t' : T (a'.inside s)) (is : a'.entry s ≡ e) where
    small_e : vertex_of e < v
    small_e = rw of small

    put_in : (j : ℕ) → j < v → Puts v h (pos_at w) (entry_at v (put v w j e)) (pos_at (put v w j e)) j e
    put_in j l = puts v w j e small_e (omega arith)

    module _ (t : T (a.inside s)) where
      here : There n h (pos_at w) s
      here = y.holds.there s small t

      changed_loose : Loose n (entry_at v (put v w (pos_at w s) e)) (pos_at w s)
      changed_loose =
          let q = put_in (pos_at w s) (omega (arith, here.slot, fits v a n w y)) in
          record {
            rest = λ i j d m ni nj. omega (arith, q.keeps i ni, q.keeps j nj, y.ordered i j d m);
            past = λ i j d f m.
                omega (arith, q.keeps i (λ g. omega (arith, d.low)), q.keeps j (λ g. omega (arith, f.low)), y.ordered i (pos_at w s) d here.slot, y.ordered (pos_at w s) j f m);
          }

      changed : Nearly v a' n (pos_at w s) e w
      changed =
          record {
            inside = here.slot;
            small = small_e;
            fit = fits v a n w y;
            room = room;
            holds = changed_holds v a a' n h (pos_at w) _ _ y.holds (pos_at w s) e (put_in (pos_at w s) (omega (arith, here.slot, fits v a n w y))) small_e
                (rw of b) (rw of t') (rw of is) (rw of t) (ap (pos_at w) of);
            loose = changed_loose;
          }

      changed_under : e ≤ a.entry s → Under n (entry_at v (put v w (pos_at w s) e)) (pos_at w s)
      changed_under le j f m =
          let q = put_in (pos_at w s) (omega (arith, here.slot, fits v a n w y)) in
          let was : h (pos_at w s) ≡ a.entry s = (y.holds.each (pos_at w s) here.slot).is ∙ ap a.entry here.is in
          omega (arith, q.at, q.keeps j (λ g. omega (arith, f.low)), was, y.ordered (pos_at w s) j f m)

    module _ (out : T (not (a.inside s))) where
      inserted : Nearly v a' (suc n) n e w
      inserted =
          let k : n < v = room_for v a n w y s small out in
          let q = put_in n k in
          record {
            inside = le_refl _;
            small = small_e;
            fit = k;
            room = room;
            holds = inserted_holds v a a' n h (pos_at w) _ _ y.holds n e q small_e (rw of b) (rw of t') (rw of is) (rw of out) refl;
            loose =
                record {
                  rest = λ i j d m ni nj. omega (arith, q.keeps i ni, q.keeps j nj, y.ordered i j d (omega arith));
                  past = λ i j d f m. absurd (omega (arith, f.low));
                };
          }

      inserted_under : Under (suc n) (entry_at v (put v w n e)) n
      inserted_under j f m = absurd (omega (arith, f.low))

-- ---- goes

module _ (v : ℕ) (a a' : Want) (m : ℕ) (w : List ℕ) (few : v ≤ 4096) (room : 3 * v ≤ length w) (y : Heap v a (suc m) w) (s : ℕ) (small : s < v)
    (b : But s a a') (t : T (a.inside s)) (out : T (not (a'.inside s))) where
  abbrev w° : List ℕ
  w° = set w s nowhere

  stood : There (suc m) (entry_at v w) (pos_at w) s
  stood = y.holds.there s small t

  gone : Drops v (pos_at w) (pos_at w°) s
  gone = drops v w s small (omega arith)

  same : (j : ℕ) → entry_at v w° j ≡ entry_at v w j
  same j = drop_entry v w s small (omega arith) j

  last_gone : pos_at w s ≡ m → Heap v a' m w°
  last_gone e =
      let k = dropped_holds v a a' m (entry_at v w) (pos_at w) y.holds s small t b out (pos_at w°) gone e in
      record {
        holds =
            record {
              each = λ j l. let z = k.each j l in record { small = rw (same j) z.small; inside = rw (same j) z.inside; is = rw (same j) z.is; stands = rw (same j) z.stands };
              there = λ u l i. let z = k.there u l i in record { slot = z.slot; is = rw (same (pos_at w° u)) z.is };
              away = k.away;
            };
        ordered = λ i j d l. omega (arith, same i, same j, y.ordered i j d (omega arith));
      }

  module _ (ne : pos_at w s ≢ m) where
    small_last : vertex_of (entry_at v w m) < v
    small_last = (y.holds.each m (omega arith)).small

    fill : Puts v (entry_at v w°) (pos_at w°) (entry_at v (put v w° (pos_at w s) (entry_at v w m))) (pos_at (put v w° (pos_at w s) (entry_at v w m))) (pos_at w s) (entry_at v w m)
    fill = puts v w° (pos_at w s) (entry_at v w m) small_last (simp length-set (omega (arith, stood.slot, fits v a (suc m) w y)))

    fill_keeps : (j : ℕ) → j ≢ pos_at w s → entry_at v (put v w° (pos_at w s) (entry_at v w m)) j ≡ entry_at v w j
    fill_keeps j nj = fill.keeps j nj ∙ same j

    filled : Nearly v a' m (pos_at w s) (entry_at v w m) w°
    filled =
        record {
          inside = omega (arith, stood.slot);
          small = small_last;
          fit = omega (arith, fits v a (suc m) w y);
          room = simp length-set room;
          holds = filled_holds v a a' m (entry_at v w) (pos_at w) y.holds s small t b out (pos_at w°) gone ne _ _
              (record { at = fill.at; keeps = fill_keeps; stands = fill.stands; others = fill.others });
          loose =
              record {
                rest = λ i j d l ni nj. omega (arith, fill_keeps i ni, fill_keeps j nj, y.ordered i j d (omega arith));
                past = λ i j d f l.
                    omega (
                      arith,
                      fill_keeps i (λ g. omega (arith, d.low)),
                      fill_keeps j (λ g. omega (arith, f.low)),
                      y.ordered i (pos_at w s) d stood.slot,
                      y.ordered (pos_at w s) j f (omega arith),
                    );
              };
        }

  removed_heap : Heap v a' m (removed v m (pos_at w s) s w)
  unfolding removed
  removed_heap =
      cond_ind (λ (x : List ℕ). Heap v a' m x) (eqb (pos_at w s) m) (λ t'. last_gone (eqb_yes t'))
      (λ t'. placed_heap v a' m (pos_at w s) (entry_at v w m) w° few (filled (eqb_no t')))

-- ---- what it is to hold now

-- vertex s has the entry e where it is inside, no dearer than its entry before
pub record Now (a a' : Want) (s : ℕ) (on : Bool) (e : ℕ) : Type 0 where
  pub inside : a'.inside s ≡ on
  pub entry : T on → a'.entry s ≡ e
  pub of : T on → vertex_of e ≡ s
  pub falls : T on → T (a.inside s) → e ≤ a.entry s

module _ (v : ℕ) (a a' : Want) (w : List ℕ) (few : v ≤ 4096) (room : 3 * v ≤ length w) (s : ℕ) (small : s < v) (b : But s a a') where
  -- it stands somewhere exactly if it was inside
  pub stood_in : (n : ℕ) → Heap v a n w → pos_at w s ≢ nowhere → T (a.inside s)
  stood_in n y ne = by (a.inside s) (λ t. y.holds.away s small t)
    where
      by : (i : Bool) → (T (not i) → pos_at w s ≡ nowhere) → T i
      by true f = tt
      by false f = absurd (ne (f tt))

  pub stood_out : (n : ℕ) → Heap v a n w → pos_at w s ≡ nowhere → T (not (a.inside s))
  stood_out n y e = by (a.inside s) (λ t. (y.holds.there s small t).slot)
    where
      by : (i : Bool) → (T i → pos_at w s < n) → T (not i)
      by true f = absurd (omega (arith, f tt, fits v a n w y))
      by false f = tt

  pub updated_heap : (n : ℕ) (on : Bool) (e : ℕ) → Heap v a n w → Now a a' s on e → Heap v a' (counted n s on w) (updated v n s on e w)
  unfolding counted updated
  updated_heap n true e y now = by (eqb (pos_at w s) nowhere) refl (rw now.inside tt)
    where
      by : (z : Bool) → eqb (pos_at w s) nowhere ≡ z → T (a'.inside s) → Heap v a' (cond z (n + 1) n) (risen v levels (cond z n (pos_at w s)) e w)
      by true q t' =
          let out = stood_out n y (eqb_yes (rw q tt)) in
          let g : n + 1 ≡ suc n = omega arith in
          rw g (up v a' (suc n) n e w few (inserted v a a' n w room y s small b e (now.of tt) t' (now.entry tt) out)
          (inserted_under v a a' n w room y s small b e (now.of tt) t' (now.entry tt) out))
      by false q t' =
          let t = stood_in n y (eqb_no (rw q tt)) in
          up v a' n (pos_at w s) e w few (changed v a a' n w room y s small b e (now.of tt) t' (now.entry tt) t)
          (changed_under v a a' n w room y s small b e (now.of tt) t' (now.entry tt) t (now.falls tt t))
  updated_heap n false e y now = by n y (eqb (pos_at w s) nowhere) refl
    where
      out' : T (not (a'.inside s))
      out' = rw now.inside tt

      same_want : (n : ℕ) → T (not (a.inside s)) → Heap v a n w → Heap v a' n w
      same_want n out y =
          let ne : (u : ℕ) → T (a.inside u) → u ≢ s = λ u t e. T_not (a.inside u) (rw e out) t in
          record {
            holds =
                record {
                  each = λ j l.
                      let z = y.holds.each j l in
                      let f : vertex_of (entry_at v w j) ≢ s = ne (vertex_of (entry_at v w j)) z.inside in
                      record { small = z.small; inside = rw (b.inside (vertex_of (entry_at v w j)) f) z.inside; is = z.is ∙ sym (b.entry (vertex_of (entry_at v w j)) f); stands = z.stands };
                  there = λ u l t. let f : u ≢ s = λ g. T_not (a'.inside u) (rw g out') t in y.holds.there u l (rw (b.inside u f) at t);
                  away = λ u l t. same_cases u s (λ g. rw g (y.holds.away s small out)) (λ f. y.holds.away u l (rw (b.inside u f) at t));
                };
            ordered = y.ordered;
          }

      by : (n : ℕ) → Heap v a n w → (z : Bool) → eqb (pos_at w s) nowhere ≡ z →
          Heap v a' (cond z n (n - 1)) (cond z w (removed v (n - 1) (pos_at w s) s w))
      by n y true q = same_want n (stood_out n y (eqb_yes (rw q tt))) y
      by zero y false q = absurd (omega (arith, (y.holds.there s small (stood_in zero y (eqb_no (rw q tt)))).slot))
      by (suc m) y false q =
          let g : suc m - 1 ≡ m = omega arith in
          rw g (removed_heap v a a' m w few room y s small b (stood_in (suc m) y (eqb_no (rw q tt))) out')

-- ---- the first entry

module _ (v : ℕ) (a : Want) (n : ℕ) (w : List ℕ) (y : Heap v a n w) where
  -- none, where there is no entry
  pub empty : n ≡ 0 → (s : ℕ) → s < v → T (a.inside s) → ⊥
  empty e s l t = omega (arith, (y.holds.there s l t).slot)

  -- else that of a vertex inside, and no vertex inside has a lesser one
  pub record Root : Type 0 where
    pub small : vertex_of (entry_at v w 0) < v
    pub inside : T (a.inside (vertex_of (entry_at v w 0)))
    pub is : entry_at v w 0 ≡ a.entry (vertex_of (entry_at v w 0))
    pub least : (s : ℕ) → s < v → T (a.inside s) → entry_at v w 0 ≤ a.entry s

  pub root : 0 < n → Root
  root l =
      let z = y.holds.each 0 l in
      record {
        small = z.small;
        inside = z.inside;
        is = z.is;
        least = λ s k t.
            let r = y.holds.there s k t in
            let q = y.holds.each (pos_at w s) r.slot in
            let e : entry_at v w (pos_at w s) ≡ a.entry s = q.is ∙ ap a.entry r.is in
            le_trans (root_least n (entry_at v w) y.ordered (pos_at w s) r.slot) (rw e (le_refl _));
      }

-- The steps of the code, at its own counts: what each branch gives is what the definition gives.
use Prim.Native.Nat.{ℕ, zero, suc, ◌+◌, ◌*◌, ◌-◌, ◌%◌, ◌<◌, ◌≤◌}
use mathlib.Core.Path.{◌≡◌, refl, sym, ap, ◌∙◌, subst}
use mathlib.Core.Logic.{◌≢◌}
use mathlib.Core.Bool.{Bool, true, false, cond, not}
use mathlib.Core.List.{List, ◌++◌}
use native.Mathlib.Omega.{arith}
use borrow.Author.Tests.{lt-ltb, le-ltb, le-leb, lt-leb, eq-eqb, ne_eqb}
use lib.Dec.{T, ltb, leb, eqb}
use mir.Facts.{eqb_yes, eqb_no}
use Rattle.std.specs.Prelude.{Option, Some, None}
use Rattle.std.specs.Option.{is_some, unwrap_or}
use lib.ListN.{get_or, set, length, drop, replicate, length-set}
use lib.Seq.{get_or-set_same, get_or-set_other}
use Rattle.std.proofs.lemmas.List.Edits.{fill_more}
use Rattle.search.proofs.Tools.{cond_ind, same_cases}
use Rattle.heap.specs.Words.{word, nowhere, vertex_of, pos_at, entry_at, cleared, put, position_at, child_of, lower_of, sunk, above, risen, cheaper_at, placed, removed, updated, counted, levels}
use Rattle.heap.specs.Heap.{Below, Safe, Updatable, Lower, Lowers}
use Rattle.heap.proofs.Sifting.{reaches, Dearer, cheaper_yes}
use Rattle.heap.proofs.Updating.{deep}
use Rattle.heap.proofs.Slots.{length_put, put_entry, put_others, drop_entry}

-- ---- the cheaper child

module _ (v n l : ℕ) (w : List ℕ) where
  module _ (h : l + 1 < n) (x y : ℕ) (p : x ≡ entry_at v w l) (q : y ≡ entry_at v w (l + 1)) where
    pub child_second : y < x → l + 1 ≡ child_of v w n l
    unfolding child_of
    child_second k = rw (lt-ltb _ _ h, ← p, ← q, lt-ltb _ _ k)

    pub child_first : x ≤ y → l ≡ child_of v w n l
    unfolding child_of
    child_first k = rw (lt-ltb _ _ h, ← p, ← q, le-ltb _ _ k)

  pub child_alone : n ≤ l + 1 → l ≡ child_of v w n l
  unfolding child_of
  child_alone h = rw (le-ltb _ _ h)

-- ---- the entry above

module _ (v j e : ℕ) (w : List ℕ) where
  pub cheaper_first : j ≡ 0 → false ≡ cheaper_at v w j e
  unfolding cheaper_at
  cheaper_first h = rw (eq-eqb _ _ h)

  pub cheaper_above : j ≢ 0 → ltb e (entry_at v w (above j)) ≡ cheaper_at v w j e
  unfolding cheaper_at
  cheaper_above h = rw (ne_eqb _ _ h)

-- ---- down

child_ge : (v n l : ℕ) (w : List ℕ) → l ≤ child_of v w n l
unfolding child_of
child_ge v n l w =
    cond_ind (λ (c : ℕ). l ≤ c) (ltb (l + 1) n)
    (λ t. cond_ind (λ (c : ℕ). l ≤ c) (ltb (entry_at v w (l + 1)) (entry_at v w l)) (λ t'. omega arith) (λ t'. omega arith))
    (λ t. omega arith)

module _ (v k n j e : ℕ) (w : List ℕ) where
  abbrev a : ℕ
  a = child_of v w n (2 * j + 1)

  pub lower_none : k ≡ 0 → j ≡ lower_of v k n j e w
  unfolding lower_of
  lower_none h = rw (eq-eqb _ _ h)

  module _ (more : k ≢ 0) where
    lower_more : lower_of v k n j e w ≡ cond (leb n (2 * j + 1)) j (cond (ltb (entry_at v w a) e) a j)
    unfolding lower_of
    lower_more = rw (ne_eqb _ _ more)

    pub lower_leaf : n ≤ 2 * j + 1 → j ≡ lower_of v k n j e w
    lower_leaf h = rw (lower_more, le-leb _ _ h)

    module _ (c x : ℕ) (h : 2 * j + 1 < n) (is : c ≡ child_of v w n (2 * j + 1)) (at : x ≡ entry_at v w c) where
      pub lower_down : x < e → c ≡ lower_of v k n j e w
      lower_down s = rw (lower_more, lt-leb _ _ h, ← is, ← at, lt-ltb _ _ s)

      pub lower_stays : e ≤ x → j ≡ lower_of v k n j e w
      lower_stays s = rw (lower_more, lt-leb _ _ h, ← is, ← at, le-ltb _ _ s)

  sunk_more : (k : ℕ) → k ≢ 0 → sunk v k n j e w ≡
      cond (leb n (2 * j + 1)) (put v w j e) (cond (ltb (entry_at v w a) e) (sunk v (k - 1) n a e (put v w j (entry_at v w a))) (put v w j e))
  unfolding sunk
  sunk_more zero f = absurd (f refl)
  sunk_more (suc k) f = let g : suc k - 1 ≡ k = omega arith in rw g

  sunk_none : k ≡ 0 → put v w j e ≡ sunk v k n j e w
  unfolding sunk
  sunk_none h = rw h

  -- e stays at entry j
  sunk_stays : (c : ℕ) → c ≡ lower_of v k n j e w → c ≡ j → put v w j e ≡ sunk v k n j e w
  sunk_stays c is h =
      same_cases k 0 sunk_none (λ f. rw (sunk_more k f) (go (leb n (2 * j + 1)) (ltb (entry_at v w a) e) _ (sym (lower_more f) ∙ sym is ∙ h)))
    where
      go : (p q : Bool) (y : List ℕ) → cond p j (cond q a j) ≡ j → put v w j e ≡ cond p (put v w j e) (cond q y (put v w j e))
      go true q y g = refl
      go false true y g = absurd (omega (arith, child_ge v n (2 * j + 1) w))
      go false false y g = refl

  abbrev down : ℕ → List ℕ
  down c = sunk v (k - 1) n c e (put v w j (entry_at v w c))

  -- or goes down to entry c
  sunk_goes : (c : ℕ) → c ≡ lower_of v k n j e w → c ≢ j → sunk v (k - 1) n c e (put v w j (entry_at v w c)) ≡ sunk v k n j e w
  sunk_goes c is h =
      same_cases k 0 (λ f. absurd (h (is ∙ sym (lower_none f))))
      (λ f. rw (sunk_more k f, is ∙ lower_more f) (go (leb n (2 * j + 1)) (ltb (entry_at v w a) e) (λ g. h (is ∙ lower_more f ∙ g))))
    where
      go : (p q : Bool) → cond p j (cond q a j) ≢ j → down (cond p j (cond q a j)) ≡ cond p (put v w j e) (cond q (down a) (put v w j e))
      go true q g = absurd (g refl)
      go false true g = refl
      go false false g = absurd (g refl)

-- ---- what is asked stays

-- the vertex of an entry is in its low word
vertex_low : (v : ℕ) (w : List ℕ) (k : ℕ) → vertex_of (entry_at v w k) ≡ get_or w (v + 2 * k) 0 % 4096
unfolding entry_at
vertex_low v w k = omega arith

module _ (v n : ℕ) (w : List ℕ) (y : Safe v n w) where
  -- a word set, one with a vertex below v where it is a low one
  safe_word : (i x : ℕ) → i < length w → ((k : ℕ) → i ≡ v + 2 * k → x % 4096 < v) → Safe v n (set w i x)
  safe_word i x r f =
      record {
        few = y.few;
        fit = y.fit;
        room = simp length-set y.room;
        each = λ k m. rw (vertex_low v (set w i x) k) (same_cases i (v + 2 * k)
            (λ e. rw (← e, get_or-set_same w i x 0 r) (f k e))
            (λ ne. rw (get_or-set_other w i (v + 2 * k) x 0 (λ g. ne (sym g)), ← vertex_low v w k) (y.each k m)));
      }

  pub safe_low : (j e : ℕ) → vertex_of e < v → v + 2 * j < length w → Safe v n (set w (v + 2 * j) (e % word))
  safe_low j e l r = safe_word _ _ r (λ k f. omega arith)

  pub safe_high : (j x : ℕ) → v + 2 * j + 1 < length w → Safe v n (set w (v + 2 * j + 1) x)
  safe_high j x r = safe_word _ _ r (λ k f. absurd (omega arith))

  pub safe_position : (s x : ℕ) → s < v → Safe v n (set w s x)
  safe_position s x l = safe_word _ _ (omega (arith, y.room)) (λ k f. absurd (omega arith))

pub safe_less : (v n m : ℕ) (w : List ℕ) → Safe v n w → m ≤ n → Safe v m w
safe_less v n m w y l = record { few = y.few; fit = omega (arith, y.fit); room = y.room; each = λ k h. y.each k (omega arith) }

-- every entry but that of slot j has its vertex below v
record SafeBut (v n j : ℕ) (w : List ℕ) : Type 0 where
  few : v ≤ 4096
  fit : n ≤ v
  room : 3 * v ≤ length w
  each : (k : ℕ) → k < n → k ≢ j → vertex_of (entry_at v w k) < v

safe_put : (v n j e : ℕ) (w : List ℕ) → SafeBut v n j w → j < v → vertex_of e < v → Safe v n (put v w j e)
safe_put v n j e w y l small =
    record {
      few = y.few;
      fit = y.fit;
      room = rw (length_put v w j e) y.room;
      each = λ k m. same_cases k j (λ f. rw (f, put_entry v w j e small (omega (arith, y.room))) small)
          (λ ne. rw (put_others v w j e small (omega (arith, y.room)) k ne) (y.each k m ne));
    }

but_any : (v n j : ℕ) (w : List ℕ) → Safe v n w → SafeBut v n j w
but_any v n j w y = record { few = y.few; fit = y.fit; room = y.room; each = λ k l ne. y.each k l }

module _ (v n e : ℕ) (small : vertex_of e < v) where
  safe_risen : (k j : ℕ) (w : List ℕ) → SafeBut v n j w → j < n → Safe v n (risen v k j e w)
  unfolding risen
  safe_risen zero j w y l = safe_put v n j e w y (omega (arith, y.fit)) small
  safe_risen (suc k) j w y l =
      cond_ind (λ (x : List ℕ). Safe v n x) (cheaper_at v w j e)
      (λ t.
      let d = (cheaper_yes v j e w t).below in
      safe_risen k (above j) _
      (but_any v n (above j) _ (safe_put v n j (entry_at v w (above j)) w y (omega (arith, y.fit)) (y.each (above j) (omega (arith, d.low)) (λ f. omega (arith, d.low)))))
      (omega (arith, d.low)))
      (λ t. safe_put v n j e w y (omega (arith, y.fit)) small)

-- an entry more
pub safe_comes : (v n e : ℕ) (w : List ℕ) → Safe v n w → n < v → vertex_of e < v → Safe v (n + 1) (risen v levels n e w)
safe_comes v n e w y l small =
    safe_risen v (n + 1) e small levels n w
    (record { few = y.few; fit = omega arith; room = y.room; each = λ k m ne. y.each k (omega arith) }) (omega arith)

-- ---- one level down

module _ (v k n j e : ℕ) (w : List ℕ) (c : ℕ) (is : c ≡ lower_of v k n j e w) (l : Lower k n j c) where
  pub lowers_stays : c ≡ j → Lowers v k n j e w w c
  lowers_stays h = record { slot = l; stays = sunk_stays v k n j e w c is; goes = λ f. absurd (f h) }

  pub lowers_goes : c ≢ j → (x : ℕ) → x ≡ entry_at v w c → (w' : List ℕ) → w' ≡ put v w j x → Lowers v k n j e w w' c
  lowers_goes h x at w' q =
      record {
        slot = l;
        stays = λ f. absurd (h f);
        goes = λ f. rw (q, at) (sunk_goes v k n j e w c is h);
      }

-- ---- up

-- e, on its way up from slot j₀, has come to slot j, and the levels left lead to the first
pub record Rising (v e j₀ : ℕ) (w₀ w : List ℕ) (j : ℕ) : Type 0 where
  pub left : ℕ
  pub near : j < reaches left
  pub inside : j < v
  pub rest : risen v left j e w ≡ risen v levels j₀ e w₀

pub rising_none : (v e j : ℕ) (w : List ℕ) → v ≤ 4096 → j < v → Rising v e j w w j
rising_none v e j w few l = record { left = levels; near = deep j (omega arith); inside = l; rest = refl }

module _ (v e j₀ : ℕ) (w₀ w : List ℕ) (j : ℕ) (y : Rising v e j₀ w₀ w j) (b : Bool) (is : b ≡ cheaper_at v w j e) where
  -- the entry above is dearer, and moves down
  module _ (h : b ≡ true) where
    pub rising_above : Dearer v j e w
    rising_above = cheaper_yes v j e w (rw (sym is ∙ h) tt)

    pub rising_more : (w' : List ℕ) → w' ≡ put v w j (entry_at v w (above j)) → Rising v e j₀ w₀ w' (above j)
    unfolding risen reaches
    rising_more w' q = by y.left y.near y.rest
      where
        d : Below (above j) j
        d = rising_above.below

        by : (k : ℕ) → j < reaches k → risen v k j e w ≡ risen v levels j₀ e w₀ → Rising v e j₀ w₀ w' (above j)
        by zero n r = absurd (omega (arith, d.low))
        by (suc k) n r =
            record {
              left = k;
              near = omega (arith, d.low);
              inside = omega (arith, y.inside);
              rest = rw q (rw (sym is ∙ h) at r);
            }

  -- or is not, and e stays at slot j
  pub rising_stays : b ≡ false → put v w j e ≡ risen v levels j₀ e w₀
  unfolding risen
  rising_stays h = by y.left y.rest
    where
      by : (k : ℕ) → risen v k j e w ≡ risen v levels j₀ e w₀ → put v w j e ≡ risen v levels j₀ e w₀
      by zero r = r
      by (suc k) r = rw (sym is ∙ h) at r

-- ---- an entry placed

module _ (v n j e : ℕ) (w : List ℕ) (b : Bool) (is : b ≡ cheaper_at v w j e) where
  pub placed_rises : b ≡ true → risen v levels j e w ≡ placed v n j e w
  unfolding placed
  placed_rises h = rw (sym is ∙ h)

  pub placed_sinks : b ≡ false → sunk v levels n j e w ≡ placed v n j e w
  unfolding placed
  placed_sinks h = rw (sym is ∙ h)

-- ---- an entry removed

module _ (v m j s : ℕ) (w : List ℕ) where
  pub removed_last : j ≡ m → set w s nowhere ≡ removed v m j s w
  unfolding removed
  removed_last h = rw (eq-eqb _ _ h)

  pub removed_fills : (e : ℕ) → j ≢ m → s < v → s < length w → e ≡ entry_at v (set w s nowhere) m → placed v m j e (set w s nowhere) ≡ removed v m j s w
  unfolding removed
  removed_fills e h l k q = rw (ne_eqb _ _ h, q ∙ drop_entry v w s l k m)

-- ---- a vertex whose entry changes

-- where it stands, if it is inside
module _ (w : List ℕ) (s : ℕ) where
  pub stood : (p : Option ℕ) (j : ℕ) → p ≡ position_at w s → p ≡ Some j → (pos_at w s ≢ nowhere) × (j ≡ pos_at w s)
  unfolding position_at
  stood p j is f = go (eqb (pos_at w s) nowhere) refl (sym is ∙ f)
    where
      go : (b : Bool) → eqb (pos_at w s) nowhere ≡ b → cond b None (Some (pos_at w s)) ≡ Some j → (pos_at w s ≢ nowhere) × (j ≡ pos_at w s)
      go true q g = absurd (subst (λ (o : Option ℕ). T (not (is_some o))) g tt)
      go false q g = ((λ k. eqb_no (rw q tt) k), sym (ap (λ (o : Option ℕ). unwrap_or o 0) g))

  pub stood_out : (p : Option ℕ) → p ≡ position_at w s → p ≡ None → pos_at w s ≡ nowhere
  unfolding position_at
  stood_out p is f = go (eqb (pos_at w s) nowhere) refl (sym is ∙ f)
    where
      go : (b : Bool) → eqb (pos_at w s) nowhere ≡ b → cond b None (Some (pos_at w s)) ≡ None → pos_at w s ≡ nowhere
      go true q g = eqb_yes (rw q tt)
      go false q g = absurd (subst (λ (o : Option ℕ). T (is_some o)) g tt)

module _ (v n s : ℕ) (o : Option ℕ) (w : List ℕ) where
  -- what the four cases give
  abbrev Done : List ℕ → ℕ → Type 0
  Done x k = (x ≡ updated v n s (is_some o) (unwrap_or o 0) w) × (k ≡ counted n s (is_some o) w)

  pub comes : (e : ℕ) → o ≡ Some e → (p : Option ℕ) → p ≡ position_at w s → p ≡ None → Done (risen v levels n e w) (n + 1)
  unfolding updated counted
  comes e h p is f = rw (h, eq-eqb _ _ (stood_out w s p is f)) (refl, refl)

  pub changes : (e : ℕ) → o ≡ Some e → (p : Option ℕ) (j : ℕ) → p ≡ position_at w s → p ≡ Some j → Done (risen v levels j e w) n
  unfolding updated counted
  changes e h p j is f = let q = stood w s p j is f in rw (h, q.1, ne_eqb _ _ q.0) (refl, refl)

  pub stays_out : o ≡ None → (p : Option ℕ) → p ≡ position_at w s → p ≡ None → Done w n
  unfolding updated counted
  stays_out h p is f = rw (h, eq-eqb _ _ (stood_out w s p is f)) (refl, refl)

  pub goes : o ≡ None → (p : Option ℕ) (j : ℕ) → p ≡ position_at w s → p ≡ Some j → Done (removed v (n - 1) j s w) (n - 1)
  unfolding updated counted
  goes h p j is f = let q = stood w s p j is f in rw (h, q.1, ne_eqb _ _ q.0) (refl, refl)

  pub small_of : Updatable v n s (is_some o) (unwrap_or o 0) w → (e : ℕ) → o ≡ Some e → vertex_of e < v
  small_of y e h = rw h at (y.of (rw h tt))

-- ---- the positions cleared

filled : (v : ℕ) (w : List ℕ) → v ≤ length w → replicate v nowhere ++ drop v w ≡ cleared v w
unfolding cleared
filled zero w l = refl
filled (suc v) w l =
    let g : suc v ≡ v + 1 = omega arith in
    ap (λ n. replicate n nowhere ++ drop n w) g ∙ sym (fill_more v nowhere w (omega arith)) ∙ ap (λ x. set x v nowhere) (filled v w (omega arith))

pub cleared_fill : (v m : ℕ) (x w : List ℕ) → x ≡ replicate m nowhere → m ≡ v → v ≤ length w → x ++ drop v w ≡ cleared v w
cleared_fill v m x w e f l = rw (e, f) (filled v w l)

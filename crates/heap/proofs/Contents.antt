-- What a heap holds: entries change places; a vertex gets another entry, comes in or goes.
use mathlib.Core.Path.{◌≡◌, refl, sym, ap, ◌∙◌}
use mathlib.Core.Logic.{◌≢◌}
use mathlib.Core.Bool.{not}
use Prim.Native.Nat.{ℕ, suc, ◌≤◌, ◌<◌}
use native.Mathlib.Omega.{arith}
use lib.Dec.{T, T_not}
use Rattle.search.proofs.Tools.{same_cases}
use Rattle.heap.specs.Words.{nowhere, vertex_of}
use Rattle.heap.specs.Heap.{Want, Slot, There, Holds}
use Rattle.heap.proofs.Order.{Swapped}

-- slot i gets the entry e, and the vertex of e stands there; all else stays
pub record Puts (v : ℕ) (h p h' p' : ℕ → ℕ) (i e : ℕ) : Type 0 where
  pub at : h' i ≡ e
  pub keeps : (j : ℕ) → j ≢ i → h' j ≡ h j
  pub stands : p' (vertex_of e) ≡ i
  pub others : (u : ℕ) → u < v → u ≢ vertex_of e → p' u ≡ p u

-- the same but for vertex s
pub record But (s : ℕ) (a a' : Want) : Type 0 where
  pub inside : (u : ℕ) → u ≢ s → a'.inside u ≡ a.inside u
  pub entry : (u : ℕ) → u ≢ s → a'.entry u ≡ a.entry u

module _ (v : ℕ) (a : Want) (n : ℕ) (h p : ℕ → ℕ) (y : Holds v a n h p) where
  -- a slot is where its vertex stands: so two slots have two vertices
  pub apart : (i j : ℕ) → i < n → j < n → vertex_of (h i) ≡ vertex_of (h j) → i ≡ j
  apart i j l m e = sym (y.each i l).stands ∙ ap p e ∙ (y.each j m).stands

  -- the vertex of slot j of a vertex that stands elsewhere
  elsewhere : (j s : ℕ) → j < n → p s ≢ j → vertex_of (h j) ≢ s
  elsewhere j s l ne e = ne (ap p (sym e) ∙ (y.each j l).stands)

  -- a slot that is as it was
  slot_stays : (a' : Want) (h' p' : ℕ → ℕ) (j s : ℕ) → j < n → But s a a' → vertex_of (h j) ≢ s → h' j ≡ h j
      → p' (vertex_of (h j)) ≡ p (vertex_of (h j)) → Slot v a' h' p' j
  slot_stays a' h' p' j s l b ne e f =
      let k = y.each j l in
      record {
        small = rw e k.small;
        inside = rw (e, b.inside (vertex_of (h j)) ne) k.inside;
        is = rw (e, b.entry (vertex_of (h j)) ne) k.is;
        stands = rw e (f ∙ k.stands);
      }

-- ---- two entries change places

module _ (v : ℕ) (a : Want) (n : ℕ) (h p : ℕ → ℕ) (y : Holds v a n h p) (h' p' : ℕ → ℕ) (i j : ℕ) (li : i < n) (lj : j < n) (ne : i ≢ j)
    (s : Swapped h h' i j) (pi : p' (vertex_of (h i)) ≡ j) (pj : p' (vertex_of (h j)) ≡ i)
    (rest : (u : ℕ) → u < v → u ≢ vertex_of (h i) → u ≢ vertex_of (h j) → p' u ≡ p u) where
  moved_slot : (k l : ℕ) → l < n → h' k ≡ h l → p' (vertex_of (h l)) ≡ k → Slot v a h' p' k
  moved_slot k l m e f =
      let z = y.each l m in
      record { small = rw e z.small; inside = rw e z.inside; is = rw e z.is; stands = rw e f }

  swapped_each : (k : ℕ) → k < n → Slot v a h' p' k
  swapped_each k m =
      same_cases k i (λ e. rw e (moved_slot i j lj s.at_x pj))
      (λ ni. same_cases k j (λ e. rw e (moved_slot j i li s.at_y pi))
      (λ nj. moved_slot k k m (s.other k ni nj)
      (rest (vertex_of (h k)) (y.each k m).small (λ e. ni (apart v a n h p y k i m li e)) (λ e. nj (apart v a n h p y k j m lj e))
      ∙ (y.each k m).stands)))

  swapped_there : (u : ℕ) → u < v → T (a.inside u) → There n h' p' u
  swapped_there u m t =
      same_cases u (vertex_of (h i))
      (λ e. record { slot = rw (e, pi) lj; is = rw (e, pi, s.at_y) })
      (λ ni. same_cases u (vertex_of (h j))
      (λ e. record { slot = rw (e, pj) li; is = rw (e, pj, s.at_x) })
      (λ nj.
      let z = y.there u m t in
      let q : p' u ≡ p u = rest u m ni nj in
      record {
        slot = rw q z.slot;
        is = rw (q, s.other (p u) (λ e. ni (sym z.is ∙ ap (λ (x : ℕ). vertex_of (h x)) e)) (λ e. nj (sym z.is ∙ ap (λ (x : ℕ). vertex_of (h x)) e))) z.is;
      }))

  not_inside : (u k : ℕ) → k < n → T (not (a.inside u)) → u ≢ vertex_of (h k)
  not_inside u k m t e = T_not (a.inside u) t (rw e (y.each k m).inside)

  pub swapped_holds : Holds v a n h' p'
  swapped_holds =
      record {
        each = swapped_each;
        there = swapped_there;
        away = λ u m t. rest u m (not_inside u i li t) (not_inside u j lj t) ∙ y.away u m t;
      }

-- ---- a vertex gets another entry, or comes in

module _ (v : ℕ) (a a' : Want) (n : ℕ) (h p h' p' : ℕ → ℕ) (y : Holds v a n h p) (i e : ℕ) (q : Puts v h p h' p' i e)
    (small : vertex_of e < v) (b : But (vertex_of e) a a') (t : T (a'.inside (vertex_of e))) (is : a'.entry (vertex_of e) ≡ e) where
  new_slot : Slot v a' h' p' i
  new_slot = record { small = rw q.at small; inside = rw q.at t; is = rw q.at (sym is); stands = rw q.at q.stands }

  kept_there : (m u : ℕ) → n ≤ m → u < v → u ≢ vertex_of e → (p u ≢ i) → T (a'.inside u) → There m h' p' u
  kept_there m u le l nu np t' =
      let z = y.there u l (rw (b.inside u nu) at t') in
      record { slot = rw (q.others u l nu) (omega (arith, z.slot)); is = rw (q.others u l nu, q.keeps (p u) np) z.is }

  new_there : (m : ℕ) → i < m → There m h' p' (vertex_of e)
  new_there m l = record { slot = rw q.stands l; is = rw (q.stands, q.at) }

  kept_away : (u : ℕ) → u < v → T (not (a'.inside u)) → p' u ≡ nowhere
  kept_away u l t' =
      let nu : u ≢ vertex_of e = λ f. T_not (a'.inside u) t' (rw f t) in
      q.others u l nu ∙ y.away u l (rw (b.inside u nu) at t')

  kept_slot : (j : ℕ) → j < n → vertex_of (h j) ≢ vertex_of e → j ≢ i → Slot v a' h' p' j
  kept_slot j l ne nj =
      slot_stays v a n h p y a' h' p' j (vertex_of e) l b ne (q.keeps j nj) (q.others (vertex_of (h j)) (y.each j l).small ne)

  -- it stood at i
  pub changed_holds : T (a.inside (vertex_of e)) → p (vertex_of e) ≡ i → Holds v a' n h' p'
  changed_holds t° f =
      let z = y.there (vertex_of e) small t° in
      record {
        each = λ j l. same_cases j i (λ g. rw g new_slot)
            (λ nj. kept_slot j l (elsewhere v a n h p y j (vertex_of e) l (λ g. nj (sym g ∙ f))) nj);
        there = λ u l t'. same_cases u (vertex_of e) (λ g. rw g (new_there n (rw (← f) z.slot)))
            (λ nu. kept_there n u (omega arith) l nu (λ g. nu (sym (y.there u l (rw (b.inside u nu) at t')).is
            ∙ ap (λ (x : ℕ). vertex_of (h x)) (g ∙ sym f) ∙ z.is)) t');
        away = kept_away;
      }

  -- it stood nowhere
  pub inserted_holds : T (not (a.inside (vertex_of e))) → i ≡ n → Holds v a' (suc n) h' p'
  inserted_holds t° f =
      record {
        each = λ j l. same_cases j i (λ g. rw g new_slot)
            (λ nj. kept_slot j (omega arith) (λ g. T_not (a.inside (vertex_of e)) t° (rw (← g) (y.each j (omega arith)).inside)) nj);
        there = λ u l t'. same_cases u (vertex_of e) (λ g. rw g (new_there (suc n) (omega arith)))
            (λ nu. kept_there (suc n) u (omega arith) l nu (λ g. omega (arith, (y.there u l (rw (b.inside u nu) at t')).slot)) t');
        away = kept_away;
      }

-- ---- a vertex goes: the last entry takes its slot, if that is another one

-- vertex s stands nowhere; all else stays
pub record Drops (v : ℕ) (p p' : ℕ → ℕ) (s : ℕ) : Type 0 where
  pub gone : p' s ≡ nowhere
  pub others : (u : ℕ) → u < v → u ≢ s → p' u ≡ p u

module _ (v : ℕ) (a a' : Want) (m : ℕ) (h p : ℕ → ℕ) (y : Holds v a (suc m) h p) (s : ℕ) (small : s < v) (t : T (a.inside s))
    (b : But s a a') (out : T (not (a'.inside s))) (p° : ℕ → ℕ) (d : Drops v p p° s) where
  inside_not : (u : ℕ) → T (a'.inside u) → u ≢ s
  inside_not u t' e = T_not (a'.inside u) (rw e out) t'

  pub dropped_holds : p s ≡ m → Holds v a' m h p°
  dropped_holds e =
      record {
        each = λ j l.
            let ne : vertex_of (h j) ≢ s = elsewhere v a (suc m) h p y j s (omega arith) (λ g. omega arith) in
            slot_stays v a (suc m) h p y a' h p° j s (omega arith) b ne refl (d.others (vertex_of (h j)) (y.each j (omega arith)).small ne);
        there = λ u l t'.
            let nu : u ≢ s = inside_not u t' in
            let z = y.there u l (rw (b.inside u nu) at t') in
            let k : p u ≢ m = λ g. nu (sym z.is ∙ ap (λ (x : ℕ). vertex_of (h x)) (g ∙ sym e) ∙ (y.there s small t).is) in
            record { slot = rw (d.others u l nu) (omega (arith, z.slot)); is = rw (d.others u l nu) z.is };
        away = λ u l t'. same_cases u s (λ g. rw g d.gone) (λ nu. d.others u l nu ∙ y.away u l (rw (b.inside u nu) at t'));
      }

  module _ (ne : p s ≢ m) (h' p' : ℕ → ℕ) (q : Puts v h p° h' p' (p s) (h m)) where
    last : Slot v a h p m
    last = y.each m (omega arith)

    here : There (suc m) h p s
    here = y.there s small t

    last_not : vertex_of (h m) ≢ s
    last_not = elsewhere v a (suc m) h p y m s (omega arith) ne

    moved_last : Slot v a' h' p' (p s)
    moved_last =
        record {
          small = rw q.at last.small;
          inside = rw (q.at, b.inside (vertex_of (h m)) last_not) last.inside;
          is = rw (q.at, b.entry (vertex_of (h m)) last_not) last.is;
          stands = rw q.at q.stands;
        }

    filled_each : (j : ℕ) → j < m → Slot v a' h' p' j
    filled_each j l =
        same_cases j (p s) (λ g. rw g moved_last)
        (λ nj.
        let k : Slot v a h p j = y.each j (omega arith) in
        let ns : vertex_of (h j) ≢ s = elsewhere v a (suc m) h p y j s (omega arith) (λ g. nj (sym g)) in
        let nm : vertex_of (h j) ≢ vertex_of (h m) = λ g. omega (arith, apart v a (suc m) h p y j m (omega arith) (omega arith) g) in
        slot_stays v a (suc m) h p y a' h' p' j s (omega arith) b ns (q.keeps j nj)
        (q.others (vertex_of (h j)) k.small nm ∙ d.others (vertex_of (h j)) k.small ns))

    filled_there : (u : ℕ) → u < v → T (a'.inside u) → There m h' p' u
    filled_there u l t' =
        same_cases u (vertex_of (h m))
        (λ g. record { slot = rw (g, q.stands) (omega (arith, here.slot)); is = rw (g, q.stands, q.at) })
        (λ nm.
        let nu : u ≢ s = inside_not u t' in
        let z = y.there u l (rw (b.inside u nu) at t') in
        let e : p' u ≡ p u = q.others u l nm ∙ d.others u l nu in
        let ki : p u ≢ p s = λ g. nu (sym z.is ∙ ap (λ (x : ℕ). vertex_of (h x)) g ∙ here.is) in
        let km : p u ≢ m = λ g. nm (sym z.is ∙ ap (λ (x : ℕ). vertex_of (h x)) g) in
        record { slot = rw e (omega (arith, z.slot)); is = rw (e, q.keeps (p u) ki) z.is })

    filled_away : (u : ℕ) → u < v → T (not (a'.inside u)) → p' u ≡ nowhere
    filled_away u l t' =
        same_cases u s (λ g. rw g (q.others s small (λ f. last_not (sym f)) ∙ d.gone))
        (λ nu.
        let out' : T (not (a.inside u)) = rw (b.inside u nu) at t' in
        q.others u l (λ g. T_not (a.inside u) out' (rw g last.inside)) ∙ d.others u l nu ∙ y.away u l out')

    pub filled_holds : Holds v a' m h' p'
    filled_holds = record { each = filled_each; there = filled_there; away = filled_away }

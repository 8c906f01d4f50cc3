-- A table's number of a vertex, what its heap asks, and what its heap is after a vertex is stored.
use mathlib.Core.Path.{◌≡◌, refl, sym, ap, ◌∙◌}
use mathlib.Core.Logic.{◌≢◌}
use mathlib.Core.Bool.{Bool, true, false, cond}
use mathlib.Core.List.{List}
use Prim.Native.Nat.{ℕ, zero, suc, ◌+◌, ◌-◌, ◌*◌, ◌≤◌, ◌<◌}
use native.Mathlib.Omega.{arith}
use borrow.Author.Tests.{eq-eqb, ne_eqb}
use lib.Dec.{T, eqb}
use lib.ListN.{length, get_or, set, take, drop, length-take, get_or-eq_default}
use lib.Seq.{get_or-take, get_or-drop}
use mir.Facts.{and_yes}
use Rattle.search.specs.declared.Vertex.{Vertex}
use Rattle.search.specs.Job.{at}
use Rattle.search.specs.Turn.{key, offered}
use Rattle.search.proofs.Tools.{cond_ind, same_cases, le_cases, T_true, at_set_same, at_set_other}
use Rattle.heap.specs.Words.{packed, vertex_of}
use Rattle.heap.specs.Heap.{Want, Heap, Safe, Updatable}
use Rattle.heap.proofs.Contents.{But}
use Rattle.heap.proofs.Updating.{Now, fits, room_for, stood_in, stood_out}
use Rattle.heap.proofs.Same.{Alike}
use Rattle.queue.specs.Parts.{sheet, table_of}
use Rattle.queue.specs.Table.{want_of, entry_for}
use Rattle.queue.specs.Queues.{Narrow}
use Rattle.queue.specs.Offers.{Offers}
use Rattle.std.specs.Prelude.{Some, None}

-- ---- a table's number

module _ (v i s : ℕ) (anchor sheets : List ℕ) where
  pub number_anchor : i ≡ 0 → get_or anchor s 0 ≡ get_or (table_of v anchor sheets i) s 0
  unfolding table_of
  number_anchor h = rw (eq-eqb _ _ h)

  pub number_sheet : i ≢ 0 → s < v → get_or sheets ((i - 1) * v + s) 0 ≡ get_or (table_of v anchor sheets i) s 0
  unfolding table_of sheet
  number_sheet h l = rw (ne_eqb _ _ h) (sym (get_or-take v (drop ((i - 1) * v) sheets) s 0 l ∙ get_or-drop ((i - 1) * v) sheets s 0))

-- numbers of 32 bits, in the slices and so in every table
pub narrow :
    (v : ℕ) (anchor sheets : List ℕ) → ((s : ℕ) → get_or anchor s 0 ≤ 4294967295) → ((s : ℕ) → get_or sheets s 0 ≤ 4294967295) → Narrow v anchor sheets
unfolding table_of sheet
narrow v anchor sheets f g i s =
    cond_ind (λ (l : List ℕ). get_or l s 0 ≤ 4294967295) (eqb i 0) (λ t. f s)
    (λ t.
    le_cases v s
    (λ l.
    let k : length (take v (drop ((i - 1) * v) sheets)) ≤ s = omega (arith, length-take v (drop ((i - 1) * v) sheets)) in
    rw (get_or-eq_default (take v (drop ((i - 1) * v) sheets)) 0 k) (omega arith))
    (λ l. rw (get_or-take v (drop ((i - 1) * v) sheets) s 0 l, get_or-drop ((i - 1) * v) sheets s 0) (g ((i - 1) * v + s))))

-- ---- what a table is offered

module _ (i w1 h : ℕ) (x : Vertex) (s : ℕ) where
  pub closed : x.opened ≡ false → Offers i w1 h x s None
  unfolding offered entry_for
  closed e = record { on = rw e refl; entry = refl }

  module _ (n : ℕ) (same : n ≡ h) (b : Bool) (is : b ≡ offered i n x) where
    pub offers_some : b ≡ true → (e : ℕ) → e ≡ packed (key w1 n x) s → Offers i w1 h x s (Some e)
    unfolding entry_for
    offers_some t e q = record { on = sym (sym (rw same at is) ∙ t); entry = rw same at q }

    pub offers_none : b ≡ false → Offers i w1 h x s None
    unfolding entry_for
    offers_none f = record { on = sym (sym (rw same at is) ∙ f); entry = refl }

-- ---- what the heap asks

pub safe_heap : (v : ℕ) (a : Want) (n : ℕ) (w : List ℕ) → v ≤ 4096 → 3 * v ≤ length w → Heap v a n w → Safe v n w
safe_heap v a n w few room y = record { few = few; fit = fits v a n w y; room = room; each = λ j l. (y.holds.each j l).small }

pub updatable :
    (v : ℕ) (a : Want) (n : ℕ) (w : List ℕ) (few : v ≤ 4096) (room : 3 * v ≤ length w) → Heap v a n w → (s : ℕ) → s < v → (on : Bool) (e : ℕ) →
    (T on → vertex_of e ≡ s) → Updatable v n s on e w
updatable v a n w few room y s small on e of =
    let none : But s a a = record { inside = λ u ne. refl; entry = λ u ne. refl } in
    record {
      small = small;
      stands = λ ne. (y.holds.there s small (stood_in v a a w few room s small none n y ne)).slot;
      of = λ t. rw (of t) small;
      more = λ t q. room_for v a n w y s small (stood_out v a a w few room s small none n y q);
    }

-- ---- a vertex stored

pub entry_of : (w1 h : ℕ) (x : Vertex) (s : ℕ) (on : Bool) → s < 4096 → T on → vertex_of (entry_for w1 h x s on) ≡ s
unfolding entry_for
entry_of w1 h x s true l t = omega arith
entry_of w1 h x s false l t = absurd t

module _ (i w1 : ℕ) (hs : List ℕ) (st : List Vertex) (s : ℕ) (x : Vertex) (inside : s < length st) where
  pub but_one : But s (want_of i w1 hs st) (want_of i w1 hs (set st s x))
  unfolding want_of
  but_one =
      record {
        inside = λ u ne. ap (λ (p : Vertex). offered i (get_or hs u 0) p) (at_set_other st s u x ne);
        entry = λ u ne. ap (λ (p : Vertex). packed (key w1 (get_or hs u 0) p) u) (at_set_other st s u x ne);
      }

  abbrev on : Bool
  on = offered i (get_or hs s 0) x

  pub now_is : length st ≤ 4096 → (T (at st s).opened → x.g ≤ (at st s).g) → Now (want_of i w1 hs st) (want_of i w1 hs (set st s x)) s on (entry_for w1 (get_or hs s 0) x s on)
  unfolding want_of entry_for key offered
  now_is few falls =
      record {
        inside = ap (λ (p : Vertex). offered i (get_or hs s 0) p) (at_set_same st s x inside);
        entry = λ t.
            ap (λ (p : Vertex). packed (key w1 (get_or hs s 0) p) s) (at_set_same st s x inside)
            ∙ ap (λ (b : Bool). cond b (packed (key w1 (get_or hs s 0) x) s) 0) (sym (T_true on t));
        of = λ t. entry_of w1 (get_or hs s 0) x s on (omega arith) t;
        falls = λ t o.
            let k : x.g ≤ (at st s).g = falls (and_yes (at st s).opened _ o).0 in
            rw (T_true on t) (omega arith);
      }

  -- where it is offered neither before nor after, the heap is to hold what it holds
  pub stays : (v : ℕ) → (T (offered i (get_or hs s 0) (at st s)) → ⊥) → (T on → ⊥) → Alike v (want_of i w1 hs st) (want_of i w1 hs (set st s x))
  unfolding want_of
  stays v before after =
      record {
        inside = λ u l. same_cases u s
            (λ e. rw (e, at_set_same st s x inside) (both (offered i (get_or hs s 0) x) (offered i (get_or hs s 0) (at st s)) after before))
            (λ ne. but_one.inside u ne);
        entry = λ u l t. same_cases u s (λ e. absurd (before (rw e at t))) (λ ne. but_one.entry u ne);
      }
    where
      both : (a b : Bool) → (T a → ⊥) → (T b → ⊥) → a ≡ b
      both true b f g = absurd (f tt)
      both false true f g = absurd (g tt)
      both false false f g = refl

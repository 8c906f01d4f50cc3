-- A vertex stored, in the heap of one table after another.
use mathlib.Core.Path.{◌≡◌, refl, ap, ◌∙◌}
use mathlib.Core.Logic.{◌≢◌}
use mathlib.Core.Bool.{Bool, true, false, cond, ◌&&◌, ◌||◌}
use mathlib.Core.List.{List}
use Prim.Native.Nat.{ℕ, suc, ◌+◌, ◌*◌, ◌≤◌, ◌<◌}
use native.Mathlib.Nat.{mul-le-mul_right}
use native.Mathlib.Omega.{arith}
use borrow.Author.Tests.{ne_eqb}
use lib.Dec.{T, eqb}
use lib.ListN.{length, get_or, set, length-set}
use mir.Facts.{and_yes}
use Rattle.search.specs.declared.Vertex.{Vertex}
use Rattle.search.specs.Job.{at}
use Rattle.search.specs.Turn.{offered}
use Rattle.search.proofs.Tools.{same_cases, le_cases}
use Rattle.heap.specs.Words.{updated, counted}
use Rattle.heap.specs.Heap.{Heap, Safe, Updatable}
use Rattle.std.specs.Prelude.{Option}
use Rattle.std.specs.Option.{is_some, unwrap_or}
use Rattle.queue.specs.Offers.{Offers}
use Rattle.heap.proofs.Lengths.{length_updated}
use Rattle.heap.proofs.Updating.{updated_heap}
use Rattle.heap.proofs.Same.{heap_alike}
use Rattle.queue.specs.declared.Tables.{Tables}
use Rattle.queue.specs.Parts.{Heaps, part_of, with_table, Tabled, table_of}
use Rattle.queue.specs.Table.{want_of, entry_for}
use Rattle.queue.specs.Queues.{HeapRoom, Queue, Queues, Between, StoringIn, StoredIn, StoredGuides, Storing, Stored}
use Rattle.queue.proofs.Pieces.{length_part, table_words, table_count, words_length, other_words, other_count}
use Rattle.queue.proofs.OneTable.{safe_heap, updatable, entry_of, but_one, now_is, stays}

pub tabled : (v : ℕ) (t : Tables) (h : Heaps) → HeapRoom v t h → (i : ℕ) → i ≤ t.guides → Tabled v i h
tabled v t h r i l = record { count = omega (arith, r.counts); room = omega (arith, r.words, mul-le-mul_right (3 * v) l) }

-- ---- table k

module _ (v : ℕ) (t : Tables) (anchor sheets : List ℕ) (s : ℕ) (x : Vertex) (k : ℕ) (st : List Vertex) (h : Heaps) (last : k ≤ t.guides)
    (b : Between v t anchor sheets s x k st h) where
  abbrev hs : List ℕ
  hs = table_of v anchor sheets k

  abbrev on : Bool
  on = offered k (get_or hs s 0) x

  abbrev e : ℕ
  e = entry_for t.w1 (get_or hs s 0) x s on

  abbrev n : ℕ
  n = get_or h.counts k 0

  abbrev w : List ℕ
  w = part_of v k h.words

  there : (i : ℕ) → i ≤ t.guides → Tabled v i h
  there i l = tabled v t h b.room i l

  sized_part : length w ≡ 3 * v
  sized_part = length_part v k h.words (there k last).room

  pub asks_safe : Safe v n w
  asks_safe = safe_heap v (want_of k t.w1 hs st) n w b.source.few (omega (arith, sized_part)) (b.old k (omega arith) last)

  pub asks_update : Updatable v n s on e w
  asks_update =
      updatable v (want_of k t.w1 hs st) n w b.source.few (omega (arith, sized_part)) (b.old k (omega arith) last) s b.small on e
      (λ a. entry_of t.w1 (get_or hs s 0) x s on (omega (arith, b.small, b.source.few)) a)

  sized_new : length (updated v n s on e w) ≡ 3 * v
  sized_new = length_updated v n s on e w ∙ sized_part

  abbrev h' : Heaps
  h' = with_table v k (updated v n s on e w) (counted n s on w) h

  here : Heap v (want_of k t.w1 hs (set st s x)) (counted n s on w) (updated v n s on e w)
  here =
      let l : s < length st = omega (arith, b.small, b.sized) in
      updated_heap v (want_of k t.w1 hs st) (want_of k t.w1 hs (set st s x)) w b.source.few (omega (arith, sized_part)) s b.small
      (but_one k t.w1 hs st s x l) n on e (b.old k (omega arith) last) (now_is k t.w1 hs st s x l (omega (arith, b.source.few, b.sized)) b.falls)

  other : (i : ℕ) (a : List Vertex) → i ≢ k → i ≤ t.guides → Queue v t anchor sheets i a h → Queue v t anchor sheets i a h'
  other i a ne l q =
      rw (
        other_words v k h (there k last) (updated v n s on e w) sized_new (counted n s on w) i ne (there i l),
        other_count v k h (there k last) (updated v n s on e w) sized_new (counted n s on w) i ne (there i l),
      ) q

  pub one_table : Between v t anchor sheets s x (suc k) st h'
  one_table =
      record {
        source = b.source;
        narrow = b.narrow;
        sized = b.sized;
        room =
            record {
              counts = simp length-set b.room.counts;
              words = rw (words_length v k h (there k last) (updated v n s on e w) sized_new (counted n s on w)) b.room.words;
            };
        small = b.small;
        cost = b.cost;
        falls = b.falls;
        new = λ i l m. same_cases i k
            (λ q.
            rw (
              q,
              table_words v k h (there k last) (updated v n s on e w) sized_new (counted n s on w),
              table_count v k h (there k last) (updated v n s on e w) sized_new (counted n s on w),
            ) here)
            (λ ne. other i (set st s x) ne m (b.new i (omega arith) m));
        old = λ i l m. other i st (λ q. omega arith) m (b.old i (omega arith) m);
      }

-- as the code does it
module _ (v : ℕ) (t : Tables) (anchor sheets : List ℕ) (k s : ℕ) (x : Vertex) (h : Heaps) (y : StoringIn v t anchor sheets k s x h) where
  pub table_there : Tabled v k h
  table_there = tabled v t h y.between.room k y.last

  pub safe_there : Safe v (get_or h.counts k 0) (part_of v k h.words)
  safe_there = asks_safe v t anchor sheets s x k y.vertices h y.last y.between

  module _ (r : Option ℕ) (o : Offers k t.w1 (get_or (table_of v anchor sheets k) s 0) x s r) where
    pub update_asks : Updatable v (get_or h.counts k 0) s (is_some r) (unwrap_or r 0) (part_of v k h.words)
    update_asks = rw (o.entry, o.on) (asks_update v t anchor sheets s x k y.vertices h y.last y.between)

    pub stored_in :
        (h' : Heaps) →
        h' ≡ with_table v k (updated v (get_or h.counts k 0) s (is_some r) (unwrap_or r 0) (part_of v k h.words)) (counted (get_or h.counts k 0) s (is_some r) (part_of v k h.words)) h →
        StoredIn v t anchor sheets k s x h h'
    stored_in h' q = record { stored = λ st b. rw (q, o.entry, o.on) (one_table v t anchor sheets s x k st h y.last b) }

-- ---- the guides' tables, one after another

-- the first k tables have the vertex
pub record Walking (v : ℕ) (t : Tables) (anchor sheets : List ℕ) (s : ℕ) (x : Vertex) (h₀ : Heaps) (k : ℕ) (h : Heaps) : Type 0 where
  pub some : 1 ≤ k
  pub most : k ≤ suc t.guides
  pub so_far : (st : List Vertex) → Between v t anchor sheets s x 1 st h₀ → Between v t anchor sheets s x k st h

module _ (v : ℕ) (t : Tables) (anchor sheets : List ℕ) (s : ℕ) (x : Vertex) (h₀ : Heaps) (k : ℕ) (h : Heaps) (z : Walking v t anchor sheets s x h₀ k h) where
  pub walking_all : t.guides + 1 ≤ k → StoredGuides v t anchor sheets s x h₀ h
  walking_all l =
      let e : k ≡ suc t.guides = omega (arith, z.most) in
      record { stored = λ st b. rw e at (z.so_far st b) }

-- ---- all tables

module _ (v : ℕ) (t : Tables) (anchor sheets : List ℕ) (s : ℕ) (x : Vertex) (k : ℕ) (st : List Vertex) (h : Heaps) (b : Between v t anchor sheets s x k st h) where
  -- those from k on are to hold what they hold
  pub rest_stays :
      ((i n : ℕ) → k ≤ i → i ≤ t.guides → T (offered i n (at st s)) → ⊥) → ((i n : ℕ) → k ≤ i → i ≤ t.guides → T (offered i n x) → ⊥) →
      Queues v t anchor sheets (set st s x) h
  rest_stays before after =
      record {
        source = b.source;
        narrow = b.narrow;
        sized = length-set st s x ∙ b.sized;
        room = b.room;
        each = λ i l.
            let hs : List ℕ = table_of v anchor sheets i in
            le_cases k i
            (λ m.
            heap_alike v (want_of i t.w1 hs st) (want_of i t.w1 hs (set st s x)) (get_or h.counts i 0) (part_of v i h.words)
            (stays i t.w1 hs st s x (omega (arith, b.small, b.sized)) v (before i (get_or hs s 0) m l) (after i (get_or hs s 0) m l)) (b.old i m l))
            (λ m. b.new i m l);
      }

or_false : (a b : Bool) → (a || b) ≡ false → (a ≡ false) × (b ≡ false)
or_false true b e = let z : ◌≡◌ {A = ℕ} 0 1 = ap (λ (c : Bool). cond c 0 1) e in absurd (omega arith)
or_false false b e = (refl, e)

and_true : (a b : Bool) → (a && b) ≡ true → (a ≡ true) × (b ≡ true)
and_true true b e = (refl, e)
and_true false b e = let z : ◌≡◌ {A = ℕ} 0 1 = ap (λ (c : Bool). cond c 1 0) e in absurd (omega arith)

-- a guide is offered nothing that has the guide mark; nobody is offered what is not open
marked_out : (i n : ℕ) (p : Vertex) → 1 ≤ i → p.inad ≡ true → T (offered i n p) → ⊥
unfolding offered
marked_out i n p l e o =
    let f : eqb i 0 ≡ false = ne_eqb i 0 (λ q. omega arith) in
    rw (f, e) at (and_yes p.opened _ o).1

closed_out : (i n : ℕ) (p : Vertex) → p.opened ≡ false → T (offered i n p) → ⊥
unfolding offered
closed_out i n p e o = rw e at (and_yes p.opened _ o).0

module _ (v : ℕ) (t : Tables) (anchor sheets : List ℕ) (s : ℕ) (old x : Vertex) (h : Heaps) (y : Storing v t anchor sheets s old x h) where
  pub between_none : (st : List Vertex) → Queues v t anchor sheets st h → at st s ≡ old → Between v t anchor sheets s x 0 st h
  between_none st q e =
      record {
        source = q.source;
        narrow = q.narrow;
        sized = q.sized;
        room = q.room;
        small = y.small;
        cost = y.cost;
        falls = rw e y.falls;
        new = λ i l m. absurd (omega arith);
        old = λ i l m. q.each i m;
      }

  pub stored_none : (old.opened || x.opened) ≡ false → Stored v t anchor sheets s old x h h
  stored_none e =
      record {
        stored = λ st q is.
            rest_stays v t anchor sheets s x 0 st h (between_none st q is)
            (λ i n l m. closed_out i n (at st s) (rw is (or_false old.opened x.opened e).0))
            (λ i n l m. closed_out i n x (or_false old.opened x.opened e).1);
      }

  module _ (h₁ : Heaps) (one : StoredIn v t anchor sheets 0 s x h h₁) where
    pub stored_anchor : (old.inad && x.inad) ≡ true → Stored v t anchor sheets s old x h h₁
    stored_anchor e =
        record {
          stored = λ st q is.
              rest_stays v t anchor sheets s x 1 st h₁ (one.stored st (between_none st q is))
              (λ i n l m. marked_out i n (at st s) l (rw is (and_true old.inad x.inad e).0))
              (λ i n l m. marked_out i n x l (and_true old.inad x.inad e).1);
        }

    pub stored_all : (h' : Heaps) → StoredGuides v t anchor sheets s x h₁ h' → Stored v t anchor sheets s old x h h'
    stored_all h' rest =
        record {
          stored = λ st q is.
              rest_stays v t anchor sheets s x (suc t.guides) st h' (rest.stored st (one.stored st (between_none st q is)))
              (λ i n l m. absurd (omega arith)) (λ i n l m. absurd (omega arith));
        }

-- All tables cleared, one after another; then the vertices entered, one after another.
use mathlib.Core.Path.{◌≡◌, ◌∙◌, subst}
use mathlib.Core.List.{List, ◌∷◌, append-nil}
use Prim.Native.Nat.{ℕ, zero, suc, ◌+◌, ◌-◌, ◌*◌, ◌≤◌, ◌<◌}
use native.Mathlib.Nat.{mul-le-mul_right}
use native.Mathlib.Omega.{arith}
use lib.Dec.{T}
use lib.ListN.{length, get_or, set, take, replicate, length-replicate, length-append, length-set}
use lib.Seq.{take-suc, take_all, append_snoc, length-take-le, set_at, get_or_at}
use mir.Facts.{and_yes}
use Rattle.search.specs.declared.Vertex.{Vertex}
use Rattle.search.specs.Job.{fresh, at}
use Rattle.search.specs.Turn.{offered}
use Rattle.search.proofs.Tools.{same_cases}
use Rattle.graph.specs.declared.Size.{Size}
use Rattle.workspace.specs.Layout.{Words, vertices_of}
use Rattle.workspace.proofs.Written.{length_vertices_of}
use Rattle.heap.specs.Words.{cleared}
use Rattle.heap.proofs.Lengths.{length_cleared}
use Rattle.heap.proofs.Same.{cleared_heap}
use Rattle.queue.specs.declared.Queues.{Queues as Lent}
use Rattle.queue.specs.declared.Tables.{Tables}
use Rattle.queue.specs.Methods.{Made, Same}
use Rattle.queue.specs.Parts.{Heaps, part_of, with_table, Tabled, Cleared, table_of}
use Rattle.queue.specs.Table.{want_of}
use Rattle.queue.specs.Queues.{Narrow, Queues, Building, first_only, Entering, Storing, Stored}
use Rattle.queue.proofs.Pieces.{length_part, table_words, table_count, words_length, other_words, other_count}

-- ---- what two methods keep, one after another

pub made_then : (v : ℕ) (a b c : Lent) → Made v a b → Same b c → Made v a c
made_then v a b c x y =
    record {
      heap = y.heap ∙ x.heap;
      counts = y.counts ∙ x.counts;
      words = y.words ∙ x.words;
      tallies = y.tallies ∙ x.tallies;
      anchor = y.anchor ∙ x.anchor;
      guides = y.guides ∙ x.guides;
      vertices = y.vertices ∙ x.vertices;
      tables = y.tables ∙ x.tables;
    }

-- ---- the loop that clears the tables of h₀, where table k is next

pub record Clearing (v k : ℕ) (h₀ h : Heaps) : Type 0 where
  pub same_words : length h.words ≡ length h₀.words
  pub same_counts : length h.counts ≡ length h₀.counts
  pub done : Cleared v k h

module _ (v : ℕ) (h₀ : Heaps) where
  module _ (g k : ℕ) (h : Heaps) (counts : g < length h₀.counts) (words : suc g * (3 * v) ≤ length h₀.words) (c : Clearing v k h₀ h) (more : k < g + 1) where
    there : (i : ℕ) → i ≤ g → Tabled v i h
    there i l = record { count = omega (arith, c.same_counts, counts); room = omega (arith, c.same_words, words, mul-le-mul_right (3 * v) l) }

    pub clearing_asks : Tabled v k h
    clearing_asks = there k (omega arith)

    abbrev p : List ℕ
    p = cleared v (part_of v k h.words)

    sized_part : length (part_of v k h.words) ≡ 3 * v
    sized_part = length_part v k h.words clearing_asks.room

    sized : length p ≡ 3 * v
    sized = length_cleared v (part_of v k h.words) ∙ sized_part

    next : Cleared v (suc k) (with_table v k p 0 h)
    next =
        record {
          empty = λ i l a n. same_cases i k
              (λ e.
              rw (e, table_words v k h clearing_asks p sized 0, table_count v k h clearing_asks p sized 0)
              (cleared_heap v a (part_of v k h.words) (omega (arith, sized_part)) n))
              (λ ne.
              rw (other_words v k h clearing_asks p sized 0 i ne (there i (omega arith)), other_count v k h clearing_asks p sized 0 i ne (there i (omega arith)))
              (c.done.empty i (omega arith) a n));
        }

    pub clearing_more : (h' : Heaps) → h' ≡ with_table v k p 0 h → Clearing v (k + 1) h₀ h'
    clearing_more h' e =
        let q : k + 1 ≡ suc k = omega arith in
        rw (e, q)
        (record {
          same_words = words_length v k h clearing_asks p sized 0 ∙ c.same_words;
          same_counts = length-set h.counts k 0 ∙ c.same_counts;
          done = next;
        })

  pub clearing_all : (g k : ℕ) (h : Heaps) → Clearing v k h₀ h → g + 1 ≤ k → Cleared v (suc g) h
  clearing_all g k h c l = record { empty = λ i m a n. c.done.empty i (omega arith) a n }

-- ---- the first k vertices

module _ (st : List Vertex) where
  pub first_length : (k : ℕ) → k ≤ length st → length (first_only k st) ≡ length st
  unfolding first_only
  first_length k l = simp (length-append, length-replicate) (omega (arith, length-take-le k st l))

  module _ (k : ℕ) (l : k < length st) where
    rest_is : replicate (length st - k) fresh ≡ fresh ∷ replicate (length st - suc k) fresh
    rest_is = let e : length st - k ≡ suc (length st - suc k) = omega arith in rw e

    pub first_fresh : at (first_only k st) k ≡ fresh
    unfolding first_only at
    first_fresh = rw rest_is (get_or_at (take k st) fresh (replicate (length st - suc k) fresh) fresh k (length-take-le k st (omega arith)))

    pub first_more : set (first_only k st) k (at st k) ≡ first_only (suc k) st
    unfolding first_only at
    first_more =
        rw (rest_is, take-suc st k fresh l, append_snoc)
        (set_at (take k st) fresh (replicate (length st - suc k) fresh) (get_or st k fresh) k (length-take-le k st (omega arith)))

  pub first_all : (k : ℕ) → k ≡ length st → first_only k st ≡ st
  unfolding first_only
  first_all k e = let z : length st - k ≡ 0 = omega arith in rw (z, append-nil) (take_all k st (omega arith))

  -- none of them is open
  first_none : (u : ℕ) → T (at (first_only 0 st) u).opened → ⊥
  unfolding first_only at fresh
  first_none u t = none (length st - 0) u t
    where
      none : (n u : ℕ) → T (get_or (replicate n fresh) u fresh).opened → ⊥
      none zero u t = t
      none (suc n) zero t = t
      none (suc n) (suc u) t = none n u t

-- ---- the loop that enters them into the heaps of h₀, where vertex s is next

pub record Entered (z : Size) (t : Tables) (anchor sheets : List ℕ) (m : Words) (s : ℕ) (h : Heaps) : Type 0 where
  pub most : s ≤ z.vertices
  pub queues : Queues z.vertices t anchor sheets (first_only s (vertices_of z m)) h

module _ (z : Size) (t : Tables) (anchor sheets : List ℕ) (m : Words) where
  abbrev v : ℕ
  v = z.vertices

  abbrev st : List Vertex
  st = vertices_of z m

  whole : length st ≡ v
  whole = length_vertices_of z m

  pub entered_none :
      (h₀ h : Heaps) → Building z t anchor sheets m h₀ → Narrow v anchor sheets → length h.words ≡ length h₀.words →
      length h.counts ≡ length h₀.counts → Cleared v (suc t.guides) h → Entered z t anchor sheets m 0 h
  unfolding want_of offered
  entered_none h₀ h b n lw lc c =
      record {
        most = omega arith;
        queues =
            record {
              source = b.source;
              narrow = n;
              sized = first_length st 0 (omega arith) ∙ whole;
              room = record { counts = omega (arith, b.room.counts, lc); words = omega (arith, b.room.words, lw) };
              each = λ i l.
                  c.empty i (omega arith) (want_of i t.w1 (table_of v anchor sheets i) (first_only 0 st))
                  (λ s k a. first_none st s (and_yes (at (first_only 0 st) s).opened _ a).0);
            };
      }

  module _ (s : ℕ) (h : Heaps) (y : Entering z t anchor sheets m s h) (x : Vertex) (is : x ≡ at st s) where
    inside : s < length st
    inside = omega (arith, y.small, whole)

    pub enter_asks : Storing v t anchor sheets s fresh x h
    unfolding fresh
    enter_asks =
        record {
          vertices = first_only s st;
          queues = y.queues;
          is = first_fresh st s inside;
          small = y.small;
          cost = rw is (λ o. omega (arith, y.priced.reached s (y.priced.opened s o)));
          falls = λ o. absurd o;
        }

    pub entered_more : (h' : Heaps) → Stored v t anchor sheets s fresh x h h' → Queues v t anchor sheets (first_only (suc s) st) h'
    entered_more h' e =
        subst (λ (l : List Vertex). Queues v t anchor sheets l h') (rw is (first_more st s inside)) (e.stored (first_only s st) y.queues (first_fresh st s inside))

  module _ (s : ℕ) (h : Heaps) (e : Entered z t anchor sheets m s h) where
    pub entered_all : v ≤ s → Queues v t anchor sheets st h
    entered_all l =
        subst (λ (x : List Vertex). Queues v t anchor sheets x h) (first_all st s (omega (arith, e.most, whole))) e.queues

-- The first entry of a table's heap is the table's least key.
use mathlib.Core.Path.{◌≡◌, subst}
use mathlib.Core.Logic.{◌≢◌}
use mathlib.Core.List.{List}
use Prim.Native.Nat.{ℕ, ◌+◌, ◌*◌, ◌/◌, ◌≤◌, ◌<◌}
use native.Mathlib.Nat.{mul-le-mul}
use native.Mathlib.Omega.{arith}
use borrow.Author.Tests.{eq-eqb, ne_eqb}
use lib.Dec.{T}
use lib.ListN.{length, get_or}
use mir.Facts.{and_yes}
use Rattle.search.specs.declared.Vertex.{Vertex}
use Rattle.std.specs.Prelude.{Some, None}
use Rattle.search.specs.Turn.{Best, key, offered, least}
use Rattle.search.specs.Job.{at}
use Rattle.search.specs.Bounds.{max_factor, max_key, Priced, Within}
use Rattle.search.proofs.Tools.{same_cases, le_cases}
use Rattle.search.proofs.Least.{Least, none, some, least_is, key_at, offered_at}
use Rattle.heap.specs.Words.{vertex_of, entry_at}
use Rattle.heap.specs.Heap.{Heap}
use Rattle.heap.proofs.Updating.{Root, root, empty, fits}
use Rattle.queue.specs.declared.Tables.{Tables}
use Rattle.queue.specs.Parts.{Heaps, part_of, table_of}
use Rattle.queue.specs.Table.{want_of, top_of, top_in}
use Rattle.queue.specs.Queues.{Queues}

-- ---- one heap

module _ (i w1 : ℕ) (hs : List ℕ) (st : List Vertex) (v n : ℕ) (w : List ℕ) (sized : length st ≡ v) (few : v ≤ 4096)
    (y : Heap v (want_of i w1 hs st) n w) where
  abbrev e₀ : ℕ
  e₀ = entry_at v w 0

  top_some :
      (m a : ℕ) → a < length st → T (offered_at i hs st a) → m ≡ key_at w1 hs st a →
      ((u : ℕ) → u < length st → T (offered_at i hs st u) → m ≤ key_at w1 hs st u) →
      ((u : ℕ) → u < a → T (offered_at i hs st u) → m < key_at w1 hs st u) → n ≢ 0 → (e₀ / 4096 ≡ m) × (vertex_of e₀ ≡ a)
  unfolding want_of
  top_some m a la t e f g ne =
      let r : Root v (want_of i w1 hs st) n w y = root v (want_of i w1 hs st) n w y (omega arith) in
      let s : ℕ = vertex_of e₀ in
      let ls : s < 4096 = omega (arith, r.small) in
      let is : e₀ ≡ key_at w1 hs st s * 4096 + s = r.is in
      let le : e₀ ≤ key_at w1 hs st a * 4096 + a = r.least a (omega arith) t in
      let m≤ : m ≤ key_at w1 hs st s = f s (omega (arith, r.small)) r.inside in
      le_cases a s
      (λ l. (omega arith, omega arith))
      (λ l. let lt = g s l r.inside in absurd (omega arith))

  top_by : (b : Best) → Least i w1 hs st (length st) b → top_of v n w ≡ b
  unfolding top_of want_of
  top_by None (none f) =
      same_cases n 0 (λ e. rw (eq-eqb _ _ e))
      (λ ne.
      let r : Root v (want_of i w1 hs st) n w y = root v (want_of i w1 hs st) n w y (omega arith) in
      absurd (f (vertex_of e₀) (omega (arith, r.small)) r.inside))
  top_by (Some (m, a)) (some _ _ la t e f g) =
      same_cases n 0 (λ z. absurd (empty v (want_of i w1 hs st) n w y z a (omega arith) t))
      (λ ne. let k = top_some m a la t e f g ne in rw (ne_eqb _ _ ne, k.0, k.1))

  top_is : top_of v n w ≡ least i w1 hs st
  top_is = top_by (least i w1 hs st) (least_is i w1 hs st)

-- ---- the least key is within bounds

module _ (i w1 : ℕ) (hs : List ℕ) (st : List Vertex) (factor : w1 ≤ max_factor) (narrow : (s : ℕ) → get_or hs s 0 ≤ 4294967295) (priced : Priced st) where
  key_small : (s : ℕ) → T (offered_at i hs st s) → key_at w1 hs st s ≤ max_key
  unfolding offered key
  key_small s t =
      let o : T (at st s).opened = (and_yes (at st s).opened _ t).0 in
      omega (arith, priced.reached s (priced.opened s o), mul-le-mul factor (narrow s))

  least_within : (b : Best) → Least i w1 hs st (length st) b → Within (length st) b
  least_within None (none f) =
      record {
        small = record { key = λ k s e. let z : ◌≡◌ {A = ℕ} 0 1 = cc in absurd (omega arith) };
        vertex = λ k s e. let z : ◌≡◌ {A = ℕ} 0 1 = cc in absurd (omega arith);
      }
  least_within (Some (m, a)) (some _ _ la t e f g) =
      record {
        small = record { key = λ k s q. let p : m ≡ k = grind arith in omega (arith, e, key_small a t) };
        vertex = λ k s q. let p : a ≡ s = grind arith in omega (arith, la);
      }

-- ---- a table's heap

module _ (v : ℕ) (t : Tables) (anchor sheets : List ℕ) (st : List Vertex) (h : Heaps) (q : Queues v t anchor sheets st h) (i : ℕ) (l : i ≤ t.guides) where
  pub top_least : top_in v i h ≡ least i t.w1 (table_of v anchor sheets i) st
  unfolding top_in
  top_least = top_is i t.w1 (table_of v anchor sheets i) st v (get_or h.counts i 0) (part_of v i h.words) q.sized q.source.few (q.each i l)

  pub top_within : Priced st → Within v (top_in v i h)
  top_within p =
      let hs : List ℕ = table_of v anchor sheets i in
      let k : Within (length st) (least i t.w1 hs st) = least_within i t.w1 hs st q.source.factor (λ s. q.narrow i s) p _ (least_is i t.w1 hs st) in
      rw top_least (subst (λ (n : ℕ). Within n (least i t.w1 hs st)) q.sized k)

  pub top_fits : get_or h.counts i 0 ≤ v
  top_fits = fits v (want_of i t.w1 (table_of v anchor sheets i) st) (get_or h.counts i 0) (part_of v i h.words) (q.each i l)

-- ---- the code's two cases

module _ (v n : ℕ) (w : List ℕ) where
  pub first_none : n ≡ 0 → None ≡ top_of v n w
  unfolding top_of
  first_none h = rw (eq-eqb _ _ h)

  pub first_found : n ≢ 0 → (e : ℕ) → e ≡ entry_at v w 0 → Some (e / 4096, vertex_of e) ≡ top_of v n w
  unfolding top_of
  first_found h e is = rw (ne_eqb _ _ h, ← is)

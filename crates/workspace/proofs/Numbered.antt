-- The edges of a graph in work memory by their numbers: how many are under each tail, and where edge j is.
use Prim.Native.Nat.{ℕ, zero, suc, ◌+◌, ◌-◌, ◌≤◌, ◌<◌}
use native.Mathlib.Nat.{zero-add, add-zero}
use native.Mathlib.Omega.{arith}
use mathlib.Core.Path.{◌≡◌, refl, sym, ap, ◌∙◌}
use mathlib.Core.List.{List, [], ◌∷◌, ◌++◌, append_assoc, append-nil}
use lib.ListN.{length, get_or, drop, length-append, length-drop, get_or-append}
use lib.Seq.{get_or-append-add, get_or-take, get_or-drop, length-take-le}
use Rattle.std.proofs.Common.{true, false, slice_range, leb, leb-true, leb-false}
use Rattle.std.specs.List.Sorted.{IsNonDecreasingBy, IsPartitionPoint}
use Rattle.std.proofs.lemmas.Grind.{get_or_default_zero}
use Rattle.graph.specs.declared.Edge.{Edge}
use Rattle.graph.specs.Limits.{max_class}
use Rattle.search.proofs.Tools.{le_cases}
use Rattle.graph.specs.declared.Size.{Size}
use Rattle.workspace.specs.Layout.{base, first_of, edge_at, edges_run, edges_at, edges_under, graph_of, Loaded, Whole}

module _ (z : Size) (w : List ℕ) where
  -- ---- the edges of a tail

  pub length_run : (t n j : ℕ) → length (edges_run z w t n j) ≡ n
  unfolding edges_run
  length_run t zero j = refl
  length_run t (suc n) j = ap suc (length_run t n (suc j))

  pub run_more : (t n j : ℕ) → edges_run z w t (suc n) j ≡ edges_run z w t n j ++ (edge_at z w t (j + n) ∷ [])
  unfolding edges_run
  run_more t zero j = let e : j ≡ j + 0 = omega arith in ap (λ (i : ℕ). edge_at z w t i ∷ []) e
  run_more t (suc n) j =
      let e : suc j + n ≡ j + suc n = omega arith in
      ap (λ (l : List Edge). edge_at z w t j ∷ l) (run_more t n (suc j) ∙ ap (λ (i : ℕ). edges_run z w t n (suc j) ++ (edge_at z w t i ∷ [])) e)

  length_at : (t : ℕ) → length (edges_at z w t) ≡ first_of w (suc t) - first_of w t
  unfolding edges_at
  length_at t = length_run t (first_of w (suc t) - first_of w t) (first_of w t)

  run_at : (t n j i : ℕ) (d : Edge) → i < n → get_or (edges_run z w t n j) i d ≡ edge_at z w t (j + i)
  unfolding edges_run
  run_at t zero j i d h = absurd (omega arith)
  run_at t (suc n) j zero d h = let e : j ≡ j + 0 = omega arith in ap (edge_at z w t) e
  run_at t (suc n) j (suc i) d h = let e : suc j + i ≡ j + suc i = omega arith in run_at t n (suc j) i d (omega arith) ∙ ap (edge_at z w t) e

  -- ---- all edges

  pub under_more : (n t : ℕ) → edges_under z w (suc n) t ≡ edges_under z w n t ++ edges_at z w (t + n)
  unfolding edges_under
  under_more zero t = rw (append-nil, add-zero)
  under_more (suc n) t =
      let e : suc t + n ≡ t + suc n = omega arith in
      ap (λ (l : List Edge). edges_at z w t ++ l) (under_more n (suc t) ∙ ap (λ (i : ℕ). edges_under z w n (suc t) ++ edges_at z w i) e)
      ∙ sym (append_assoc (edges_at z w t) (edges_under z w n (suc t)) (edges_at z w (t + suc n)))

  under_split : (n k t : ℕ) → edges_under z w (n + k) t ≡ edges_under z w n t ++ edges_under z w k (t + n)
  unfolding edges_under
  under_split zero k t = rw (zero-add, add-zero)
  under_split (suc n) k t =
      let e : suc n + k ≡ suc (n + k) = omega arith in
      let f : suc t + n ≡ t + suc n = omega arith in
      ap (λ (i : ℕ). edges_under z w i t) e
      ∙ ap (λ (l : List Edge). edges_at z w t ++ l) (under_split n k (suc t) ∙ ap (λ (i : ℕ). edges_under z w n (suc t) ++ edges_under z w k i) f)
      ∙ sym (append_assoc (edges_at z w t) (edges_under z w n (suc t)) (edges_under z w k (t + suc n)))

  module _ (r : Whole z w) where
    pub length_under : (t : ℕ) → t ≤ z.vertices → length (edges_under z w t 0) ≡ first_of w t
    unfolding edges_under
    length_under zero h = sym r.origin
    length_under (suc t) h =
        ap length (under_more t 0 ∙ ap (λ (i : ℕ). edges_under z w t 0 ++ edges_at z w i) (zero-add t))
        ∙ length-append (edges_under z w t 0) (edges_at z w t)
        ∙ omega (arith, length_under t (omega arith), length_at t, r.graph.rise t h)

    -- edge j, where it is one of tail t
    module _ (t j : ℕ) (h : t < z.vertices) (from : first_of w t ≤ j) (to : j < first_of w (suc t)) (d : Edge) where
      in_tail : get_or (edges_at z w t) (j - first_of w t) d ≡ edge_at z w t j
      unfolding edges_at
      in_tail =
          let e : first_of w t + (j - first_of w t) ≡ j = omega (arith, from) in
          run_at t (first_of w (suc t) - first_of w t) (first_of w t) (j - first_of w t) d (omega (arith, from, to)) ∙ ap (edge_at z w t) e

      pub edge_numbered : edge_at z w t j ≡ get_or (graph_of z w) j d
      unfolding graph_of edges_under
      edge_numbered =
          let n : z.vertices ≡ t + suc (z.vertices - suc t) = omega (arith, h) in
          let cut : graph_of z w ≡ edges_under z w t 0 ++ (edges_at z w t ++ edges_under z w (z.vertices - suc t) (suc t))
          = ap (λ (i : ℕ). edges_under z w i 0) n ∙ under_split t (suc (z.vertices - suc t)) 0 ∙ ap (λ (i : ℕ). edges_under z w t 0 ++ edges_under z w (suc (z.vertices - suc t)) i) (zero-add t) in
          let e : j ≡ length (edges_under z w t 0) + (j - first_of w t) = omega (arith, length_under t (omega (arith, h)), from) in
          sym
          (ap (λ (l : List Edge). get_or l j d) cut
          ∙ ap (λ (i : ℕ). get_or (edges_under z w t 0 ++ (edges_at z w t ++ edges_under z w (z.vertices - suc t) (suc t))) i d) e
          ∙ get_or-append-add (edges_under z w t 0) _ (j - first_of w t) d
          ∙ get_or-append (edges_at z w t) _ d (j - first_of w t) (omega (arith, length_at t, from, to))
          ∙ in_tail)

-- ---- first edge numbers and edges are within the graph

module _ (z : Size) (w : List ℕ) (r : Loaded z w) where
  pub first_within : 0 < z.vertices → (t : ℕ) → t ≤ z.vertices → first_of w t ≤ z.edges
  first_within h zero l = omega (arith, r.rise 0 h, r.ends 0 h)
  first_within h (suc t) l = r.ends t (omega arith)

  pub edge_within : (t j : ℕ) → j < z.edges → (e : Edge) → e ≡ edge_at z w t j → (e.head < z.vertices) × (e.class ≤ max_class)
  edge_within t j h e q = rw q (r.heads t j h, r.classes t j h)

-- ---- the tail of edge j: before it lie the tails whose edges end before edge j, or with it

module _ (z : Size) (w : List ℕ) (r : Whole z w) where
  rise_by : (n t : ℕ) → t + n ≤ z.vertices → first_of w t ≤ first_of w (t + n)
  rise_by zero t h = rw add-zero (omega arith)
  rise_by (suc n) t h =
      let e : t + suc n ≡ suc (t + n) = omega arith in
      rw e (omega (arith, rise_by n t (omega arith), r.graph.rise (t + n) (omega arith)))

  -- where the edges of each tail end
  abbrev ends : List ℕ
  ends = slice_range w 1 (z.vertices + 1)

  length_ends : length ends ≡ z.vertices
  unfolding base
  length_ends = length-take-le (z.vertices + 1 - 1) (drop 1 w) (omega (arith, length-drop 1 w, r.graph.room)) ∙ omega arith

  end_of : (t d : ℕ) → t < z.vertices → get_or ends t d ≡ first_of w (suc t)
  unfolding first_of base
  end_of t d h =
      let e : 1 + t ≡ suc t = omega arith in
      get_or-take (z.vertices + 1 - 1) (drop 1 w) t d (omega arith)
      ∙ get_or-drop 1 w t d
      ∙ ap (λ (i : ℕ). get_or w i d) e
      ∙ get_or_default_zero w (suc t) d (omega (arith, r.graph.room))

  pub ends_rise : IsNonDecreasingBy (λ (n : ℕ). n) ends
  ends_rise i j d h k =
      let l : j < z.vertices = omega (arith, k, length_ends) in
      let e : suc i + (j - i) ≡ suc j = omega (arith, h) in
      rw (end_of i d (omega (arith, h, l)), end_of j d l, ← e) (rise_by (j - i) (suc i) (omega (arith, h, l)))

  module _ (j : ℕ) (h : j < z.edges) (t : ℕ) (p : IsPartitionPoint (λ (n : ℕ). leb n j ≡ true) (λ (n : ℕ). leb n j ≡ false) ends t) where
    before : (s : ℕ) → s < z.vertices → s < t → first_of w (suc s) ≤ j
    before s l k = leb-true _ _ (rw (← end_of s 0 l) (p.0 s 0 (omega arith) k))

    from_end : (s : ℕ) → s ≤ z.vertices → s ≤ t → first_of w s ≤ j
    from_end zero l k = omega (arith, r.origin)
    from_end (suc s) l k = before s (omega arith) (omega arith)

    pub tail_inside : t < z.vertices
    tail_inside =
        le_cases z.vertices t
        (λ g. absurd (omega (arith, from_end z.vertices (omega arith) g, h, r.end)))
        (λ g. g)

    pub tail_from : first_of w t ≤ j
    tail_from = from_end t (omega (arith, tail_inside)) (omega arith)

    pub tail_to : j < first_of w (suc t)
    tail_to = leb-false _ _ (rw (← end_of t 0 tail_inside) (p.1 t 0 (omega arith) (omega (arith, tail_inside, length_ends))))

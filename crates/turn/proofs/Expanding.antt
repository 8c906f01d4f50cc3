-- Laws for the code that expands a vertex: trying its own edges is trying all edges, one after another.
use Prim.Native.Nat.{ℕ, zero, suc, ◌+◌, ◌-◌, ◌≤◌, ◌<◌}
use mathlib.Core.Path.{◌≡◌, refl, sym, ap, ◌∙◌}
use mathlib.Core.Bool.{Bool, true, false, cond}
use mathlib.Core.List.{List, [], ◌∷◌, ◌++◌}
use native.Mathlib.Numerals.{add-one}
use native.Mathlib.Omega.{arith}
use borrow.Author.Tests.{eq-eqb, ne_eqb}
use lib.Dec.{eqb, ltb}
use lib.ListN.{length, set}
use Rattle.graph.specs.declared.Edge.{Edge}
use Rattle.search.specs.declared.Vertex.{Vertex}
use Rattle.search.specs.Permitted.{barred_by, permitted}
use Rattle.search.specs.Job.{at}
use Rattle.search.specs.Turn.{lowered, relax, relax_all, marked, expand}
use Rattle.search.proofs.Moves.{length_relax_all}
use Rattle.search.proofs.Permitted.{permitted_append}
use Rattle.search.proofs.Tools.{cond_false, same_cases}
use Rattle.graph.specs.declared.Size.{Size}
use Rattle.workspace.specs.declared.Workspace.{Workspace}
use Rattle.workspace.specs.Layout.{written, first_of, edge_at, edges_run, edges_at, edges_under, graph_of}
use Rattle.workspace.specs.Space.{space_words, space_vertices, space_edges, Stores}
use Rattle.workspace.proofs.Written.{length_stored}
use Rattle.workspace.proofs.Spaces.{length_vertices_in, stores_none, stores_vertices, stores_edges, stores_edge, stores_then, kept_more}

-- ---- one edge

module _ (s c : ℕ) (e : Edge) (w : Workspace) where
  -- the head of the edge
  abbrev x : Vertex
  x = at (space_vertices w) e.head

  pub relax_taken :
      (w' : Workspace) → ltb (c + e.cost) x.g ≡ true → Stores (set (space_vertices w) e.head (lowered (c + e.cost) s x)) w w' →
      Stores (relax s c e (space_vertices w)) w w'
  unfolding relax
  relax_taken w' h f = rw h f

  pub relax_left : ltb (c + e.cost) x.g ≡ false → Stores (relax s c e (space_vertices w)) w w
  unfolding relax
  relax_left h = rw h (stores_none w)

-- ---- all edges

relax_all_append : (s c : ℕ) (a b : List Edge) (st : List Vertex) → relax_all s c (a ++ b) st ≡ relax_all s c b (relax_all s c a st)
unfolding relax_all
relax_all_append s c [] b st = refl
relax_all_append s c (e ∷ a) b st = relax_all_append s c a b (cond (eqb e.tail s) (relax s c e st) st)

-- ---- the edges that are permitted

edge_tail : (z : Size) (w : List ℕ) (t j : ℕ) → (edge_at z w t j).tail ≡ t
unfolding edge_at
edge_tail z w t j = refl

module _ (b s c : ℕ) where
  -- as a walk over the list tries them
  abbrev tried : List Edge → List Vertex → List Vertex
  tried es st = relax_all s c (permitted b es) st

  tried_append : (ds es : List Edge) (st : List Vertex) → tried (ds ++ es) st ≡ tried es (tried ds st)
  tried_append ds es st = ap (λ (l : List Edge). relax_all s c l st) (permitted_append b ds es) ∙ relax_all_append s c (permitted b ds) (permitted b es) st

  -- an edge that leaves another vertex
  tried_other : (e : Edge) (st : List Vertex) → (e.tail ≡ s → ⊥) → tried (e ∷ []) st ≡ st
  unfolding permitted relax_all
  tried_other e st n = by (barred_by b e.class)
    where
      by : (t : Bool) → relax_all s c (cond t [] (e ∷ [])) st ≡ st
      by true = refl
      by false = cond_false _ _ (ne_eqb e.tail s n)

module _ (z : Size) (w : List ℕ) (b s c : ℕ) where
  run_other : (t n j : ℕ) (st : List Vertex) → (t ≡ s → ⊥) → tried b s c (edges_run z w t n j) st ≡ st
  unfolding edges_run edge_at relax_all permitted
  run_other t zero j st d = refl
  run_other t (suc n) j st d =
      tried_append b s c (edge_at z w t j ∷ []) (edges_run z w t n (suc j)) st
      ∙ run_other t n (suc j) (tried b s c (edge_at z w t j ∷ []) st) d
      ∙ tried_other b s c (edge_at z w t j) st d

  under_other : (n t : ℕ) (st : List Vertex) → s < t → tried b s c (edges_under z w n t) st ≡ st
  unfolding edges_under relax_all edges_at permitted
  under_other zero t st h = refl
  under_other (suc n) t st h = rw (tried_append, run_other t _ _ st (λ e. omega arith), under_other n (suc t) st (omega arith))

  under_one : (n t : ℕ) (st : List Vertex) → t ≤ s → s < t + n → tried b s c (edges_under z w n t) st ≡ tried b s c (edges_at z w s) st
  unfolding edges_under edges_at
  under_one zero t st h l = absurd (omega arith)
  under_one (suc n) t st h l =
      same_cases t s
      (λ e. rw (tried_append, e, under_other n (suc s) _ (omega arith)))
      (λ d. rw (tried_append, run_other t _ _ st d, under_one n (suc t) st (omega arith) (omega arith)))

  -- only the edges of s count
  tried_of : (st : List Vertex) → s < z.vertices → tried b s c (graph_of z w) st ≡ tried b s c (edges_at z w s) st
  unfolding graph_of
  tried_of st h = under_one z.vertices 0 st (omega arith) (omega arith)

  -- one edge of s tried
  run_step :
      (e j : ℕ) (st : List Vertex) → j < e →
      tried b s c (edges_run z w s (e - j) j) st ≡ tried b s c (edges_run z w s (e - (j + 1)) (j + 1)) (tried b s c (edge_at z w s j ∷ []) st)
  unfolding edges_run
  run_step e j st h =
      let q : e - j ≡ suc (e - (j + 1)) = omega arith in
      rw (q, add-one j) (tried_append b s c (edge_at z w s j ∷ []) (edges_run z w s (e - suc j) (suc j)) st)

  run_end : (e j : ℕ) (st : List Vertex) → e ≤ j → tried b s c (edges_run z w s (e - j) j) st ≡ st
  unfolding edges_run relax_all permitted
  run_end e j st h = let q : e - j ≡ 0 = omega arith in rw q

-- ---- edge j of s tried, or barred

module _ (b s c j : ℕ) (w : Workspace) where
  abbrev e : Edge
  e = edge_at w.size w.work.now s j

  pub edge_barred : barred_by b e.class ≡ true → Stores (tried b s c (e ∷ []) (space_vertices w)) w w
  unfolding permitted relax_all
  edge_barred h = rw h (stores_none w)

  pub edge_tried :
      (w' : Workspace) → barred_by b e.class ≡ false → Stores (relax s c e (space_vertices w)) w w' →
      Stores (tried b s c (e ∷ []) (space_vertices w)) w w'
  unfolding permitted relax_all
  edge_tried w' h f = rw (h, eq-eqb e.tail s (edge_tail w.size w.work.now s j)) f

-- ---- the loop over the edges of s, from the first to before e: w₀ before it, w where edge j is next

pub record Tried (b s c first e : ℕ) (w₀ w : Workspace) (j : ℕ) : Type 0 where
  pub kept : Stores (space_vertices w) w₀ w
  pub rest :
      tried b s c (edges_run w₀.size w₀.work.now s (e - j) j) (space_vertices w)
      ≡ tried b s c (edges_run w₀.size w₀.work.now s (e - first) first) (space_vertices w₀)

module _ (b s c first e : ℕ) (w₀ : Workspace) where
  pub tried_none : Tried b s c first e w₀ w₀ first
  tried_none = record { kept = stores_none w₀; rest = refl }

  module _ (w : Workspace) (j : ℕ) (k : Tried b s c first e w₀ w j) where
    counted : length (space_vertices w) ≡ w₀.size.vertices
    counted = length_vertices_in w ∙ ap (λ (z : Size). z.vertices) k.kept.lent.size_is

    pub tried_next :
        (w' : Workspace) → j < e → j < w₀.size.edges → Stores (tried b s c (edge_at w.size w.work.now s j ∷ []) (space_vertices w)) w w' →
        Tried b s c first e w₀ w' (j + 1)
    tried_next w' h i f =
        let x : List Vertex = tried b s c (edge_at w.size w.work.now s j ∷ []) (space_vertices w) in
        let l : length x ≡ w.size.vertices = length_relax_all s c _ (space_vertices w) ∙ length_vertices_in w in
        record {
          kept = kept_more w₀ w w' k.kept x l f;
          rest =
              ap (tried b s c (edges_run w₀.size w₀.work.now s (e - (j + 1)) (j + 1)))
              (stores_vertices w w' x l f
              ∙ ap (λ (y : Edge). tried b s c (y ∷ []) (space_vertices w)) (stores_edge w₀ w (space_vertices w) counted k.kept s j i))
              ∙ sym (run_step w₀.size w₀.work.now b s c e j (space_vertices w) h)
              ∙ k.rest;
        }

    pub tried_all :
        s < w₀.size.vertices → e ≤ j → first ≡ first_of w₀.work.now s → e ≡ first_of w₀.work.now (s + 1) →
        Stores (tried b s c (space_edges w₀) (space_vertices w₀)) w₀ w
    unfolding edges_at
    tried_all h l p q =
        let z : Size = w₀.size in
        let m : List ℕ = w₀.work.now in
        let y : space_vertices w ≡ tried b s c (edges_run z m s (first_of m (suc s) - first_of m s) (first_of m s)) (space_vertices w₀) =
        sym (run_end z m b s c e j (space_vertices w) l) ∙ k.rest ∙ rw (p, q, add-one) refl in
        record {
          lent = k.kept.lent;
          becomes =
              record {
                words =
                    k.kept.becomes.words
                    ∙ ap (λ (x : List Vertex). written z x (space_words w₀)) (y ∙ sym (tried_of z m b s c (space_vertices w₀) h));
              };
        }

-- ---- expanding: w before, u with the vertex marked, y after its edges

module _ (w u : Workspace) (i s : ℕ) (f : Stores (set (space_vertices w) s (marked i (at (space_vertices w) s))) w u) where
  abbrev after : List Vertex
  after = set (space_vertices w) s (marked i (at (space_vertices w) s))

  after_length : length after ≡ w.size.vertices
  after_length = length_stored w.size (space_words w) s (marked i (at (space_vertices w) s))

  pub expanded :
      (b : ℕ) (y : Workspace) → Stores (tried b s (at (space_vertices w) s).g (space_edges u) (space_vertices u)) u y →
      Stores (expand (permitted b (space_edges w)) i s (space_vertices w)) w y
  unfolding expand
  expanded b y g =
      let c : ℕ = (at (space_vertices w) s).g in
      let es : List Edge = permitted b (space_edges w) in
      stores_then w u after after_length f y (relax_all s c es after) (length_relax_all s c es after ∙ after_length)
      (rw (stores_vertices w u after after_length f, stores_edges w u after after_length f) at g)

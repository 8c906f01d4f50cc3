-- Laws of first edge numbers, where the tails of the edges rise: which edges lie under a tail. How many words a graph has.
use mathlib.Core.Path.{◌≡◌, refl, ap, ◌∙◌}
use mathlib.Core.List.{List, [], ◌∷◌, ◌++◌, map, append_assoc}
use Prim.Native.Nat.{ℕ, zero, suc, ◌+◌, ◌*◌, ◌≤◌, ◌<◌}
use native.Mathlib.Nat.{not-suc-le-zero}
use native.Mathlib.Omega.{arith}
use borrow.Author.Tests.{lt-ltb, le-ltb}
use lib.ListN.{length, get_or, set, length-append, length-map}
use Rattle.graph.specs.declared.Edge.{Edge}
use Rattle.graph.specs.Lists.{none, head_of, cost_of, class_of, edge_rows, edges_fault}
use Rattle.graph.proofs.Rows.{Passes}
use Rattle.graph.proofs.OneEdge.{passes_from, passes_within}
use Rattle.graph.proofs.Plan.{edge_clear}
use Rattle.search.specs.Outcome.{edges_below, first_edges}
use Rattle.search.proofs.Tools.{le_cases}
use Rattle.graph.specs.declared.Size.{Size}
use Rattle.workspace.specs.Layout.{edge_at, edge_put, graph_words}
use Rattle.workspace.specs.Holds.{Rising, end, then}

-- edges that pass the writer's rows are such
pub passes_rising : (v t l i : ℕ) (es : List Edge) → edges_fault v t l i es ≡ none → Rising v t es
passes_rising v t l i [] h = end
passes_rising v t l i (e ∷ es) h =
    let q : Passes (edge_rows v t l e) × (edges_fault v e.tail (e.head + 1) (suc i) es ≡ none) = edge_clear v t l i e es h in
    then (passes_from v t l e q.0).rising (passes_within v t l e q.0) (passes_rising v e.tail (e.head + 1) (suc i) es q.1)

-- ---- the count of edges below a tail

module _ (t : ℕ) (e : Edge) (es : List Edge) where
  pub below_yes : e.tail < t → edges_below t (e ∷ es) ≡ suc (edges_below t es)
  unfolding edges_below
  below_yes h = rw (lt-ltb e.tail t h) (omega arith)

  pub below_no : t ≤ e.tail → edges_below t (e ∷ es) ≡ edges_below t es
  unfolding edges_below
  below_no h = rw (le-ltb e.tail t h) (omega arith)

pub below_none : {v p : ℕ} (t : ℕ) (es : List Edge) → Rising v p es → t ≤ p → edges_below t es ≡ 0
unfolding edges_below
below_none t [] r h = refl
below_none t (e ∷ es) (then a b r) h = below_no t e es (omega arith) ∙ below_none t es r (omega arith)

pub below_all : {v p : ℕ} (es : List Edge) → Rising v p es → edges_below v es ≡ length es
unfolding edges_below
below_all [] r = refl
below_all {v} (e ∷ es) (then a b r) = below_yes v e es b.tail ∙ ap suc (below_all es r)

pub below_rise : (t : ℕ) (es : List Edge) → edges_below t es ≤ edges_below (suc t) es
unfolding edges_below
below_rise t [] = omega arith
below_rise t (e ∷ es) =
    le_cases t e.tail
    (λ h.
    le_cases (suc t) e.tail (λ k. rw (below_no t e es h, below_no (suc t) e es k) (below_rise t es))
    (λ k. rw (below_no t e es h, below_yes (suc t) e es k) (omega (arith, below_rise t es))))
    (λ h. rw (below_yes t e es h, below_yes (suc t) e es (omega arith)) (omega (arith, below_rise t es)))

pub below_most : (t : ℕ) (es : List Edge) → edges_below t es ≤ length es
unfolding edges_below
below_most t [] = omega arith
below_most t (e ∷ es) =
    le_cases t e.tail (λ h. rw (below_no t e es h) (omega (arith, below_most t es)))
    (λ h. rw (below_yes t e es h) (omega (arith, below_most t es)))

-- edge i has the tail under whose numbers it lies
pub tail_at :
    {v p : ℕ} (t : ℕ) (es : List Edge) (i : ℕ) (d : Edge) → Rising v p es → edges_below t es ≤ i → i < edges_below (suc t) es →
    (get_or es i d).tail ≡ t
unfolding edges_below
tail_at t [] i d r a b = absurd (not-suc-le-zero b)
tail_at t (e ∷ es) zero d (then k l r) a b =
    le_cases (suc t) e.tail
    (λ (h : suc t ≤ e.tail). absurd (omega (arith, b, below_no (suc t) e es h, below_none (suc t) es r h)))
    (λ (h : e.tail < suc t). le_cases t e.tail (λ q. omega arith) (λ q. absurd (omega (arith, a, below_yes t e es q))))
tail_at t (e ∷ es) (suc i) d (then k l r) a b =
    le_cases (suc t) e.tail
    (λ (h : suc t ≤ e.tail). absurd (omega (arith, b, below_no (suc t) e es h, below_none (suc t) es r h)))
    (λ (h : e.tail < suc t).
    let c : i < edges_below (suc t) es = omega (arith, b, below_yes (suc t) e es h) in
    le_cases t e.tail
    (λ (q : t ≤ e.tail). tail_at t es i d r (omega (arith, below_none t es r q)) c)
    (λ (q : e.tail < t). tail_at t es i d r (omega (arith, a, below_yes t e es q)) c))

-- ---- how many words

pub length_firsts : (n t : ℕ) (es : List Edge) → length (first_edges n t es) ≡ n
unfolding first_edges
length_firsts zero t es = refl
length_firsts (suc n) t es = ap suc (length_firsts n (suc t) es)

pub length_graph : (v : ℕ) (es : List Edge) → length (graph_words v es) ≡ v + 1 + 3 * length es
unfolding graph_words
length_graph v es =
    length-append (first_edges (suc v) 0 es) (map head_of es ++ (map cost_of es ++ map class_of es))
    ∙ omega (
      arith,
      length_firsts (suc v) 0 es,
      length-append (map head_of es) (map cost_of es ++ map class_of es),
      length-append (map cost_of es) (map class_of es),
      length-map es head_of,
      length-map es cost_of,
      length-map es class_of,
    )

-- ---- in columns

-- the words of edge j, found from that of its head on
module _ (z : Size) (w : List ℕ) (j : ℕ) where
  cost_place : z.vertices + 1 + j + z.edges ≡ z.vertices + 1 + z.edges + j
  cost_place = omega arith

  class_place : z.vertices + 1 + j + 2 * z.edges ≡ z.vertices + 1 + 2 * z.edges + j
  class_place = omega arith

  pub edge_read :
      (t : ℕ) →
      ◌≡◌ {A = Edge}
      (record {
        tail = t;
        head = get_or w (z.vertices + 1 + j) 0;
        cost = get_or w (z.vertices + 1 + j + z.edges) 0;
        class = get_or w (z.vertices + 1 + j + 2 * z.edges) 0;
      })
      (edge_at z w t j)
  unfolding edge_at
  edge_read t = rw (cost_place, class_place)

  pub edge_laid :
      (e : Edge) →
      set (set (set w (z.vertices + 1 + j) e.head) (z.vertices + 1 + j + z.edges) e.cost) (z.vertices + 1 + j + 2 * z.edges) e.class
      ≡ edge_put z j e w
  unfolding edge_put
  edge_laid e = rw (cost_place, class_place)

-- first edges, heads, costs, classes, and the words behind them
abbrev pub columns : List ℕ → List ℕ → List ℕ → List ℕ → List ℕ → List ℕ
columns f h c k r = f ++ (h ++ (c ++ (k ++ r)))

pub graph_columns :
    (v : ℕ) (es : List Edge) (r : List ℕ) →
    graph_words v es ++ r ≡ columns (first_edges (suc v) 0 es) (map head_of es) (map cost_of es) (map class_of es) r
unfolding graph_words
graph_columns v es r = simp append_assoc

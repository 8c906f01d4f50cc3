-- The layout of work memory (V+1 first edge numbers, M heads, M costs, M classes, two words for each vertex) and of the wide one (two numbers for each vertex): for contracts inside the planner call, nothing that a reader must believe.
use Rattle.std.specs.Prelude.{ℕ, zero, suc, ◌+◌, ◌-◌, ◌*◌, ◌/◌, ◌%◌, ◌≤◌, ◌<◌, ◌≡◌, Bool, cond, List, [], ◌∷◌, ◌++◌, map, eqb, ltb, length, get_or, set, take, drop, replicate}
use Rattle.std.proofs.lemmas.List.Edits.{sets}
use Rattle.graph.specs.declared.Edge.{Edge}
use Rattle.graph.specs.Limits.{max_class}
use Rattle.graph.specs.Lists.{head_of, cost_of, class_of, over}
use Rattle.search.specs.declared.Vertex.{Vertex}
use Rattle.search.specs.Job.{no_pred}
use Rattle.search.specs.Outcome.{first_edges, mark_word, vertex_words, wide_words}
use Rattle.graph.specs.declared.Size.{Size}

-- the first word of the vertices in work memory
unfoldable pub base : Size → ℕ
base z = z.vertices + 1 + 3 * z.edges

-- lent memory in which vertices lie: work memory and the wide one
pub record Words : Type 0 where
  pub work : List ℕ
  pub wide : List ℕ

-- memory of these words and numbers
abbrev pub mem : List ℕ → List ℕ → Words
mem w u = record { work = w; wide = u }

-- room for the graph and the vertices in work memory
abbrev pub WorkRoom : Size → List ℕ → Type 0
WorkRoom z w = base z + 2 * z.vertices ≤ length w

-- room in each part of memory
pub record Room (z : Size) (m : Words) : Type 0 where
  pub work : WorkRoom z m.work
  pub wide : 2 * z.vertices ≤ length m.wide

-- ---- the vertices

-- whether the mark k is part of a sum of marks
abbrev pub has_mark : ℕ → ℕ → Bool
has_mark k m = eqb (m / k % 2) 1

-- the vertex whose words start at o, and whose numbers start at i
unfoldable pub vertex_at : List ℕ → ℕ → List ℕ → ℕ → Vertex
vertex_at w o u i =
    record {
      g = get_or u i 0;
      v = get_or u (i + 1) 0;
      pred = get_or w o 0;
      inad = has_mark 1 (get_or w (o + 1) 0);
      anchor = has_mark 2 (get_or w (o + 1) 0);
      opened = has_mark 4 (get_or w (o + 1) 0);
      incons = has_mark 8 (get_or w (o + 1) 0);
    }

-- n vertices from the front of the words and the numbers
unfoldable pub vertices_in : ℕ → List ℕ → List ℕ → List Vertex
vertices_in zero w u = []
vertices_in (suc n) w u = vertex_at w 0 u 0 ∷ vertices_in n (drop 2 w) (drop 2 u)

-- the vertices in memory
unfoldable pub vertices_of : Size → Words → List Vertex
vertices_of z m = vertices_in z.vertices (drop (base z) m.work) m.wide

-- memory with these vertices, the rest unchanged
unfoldable pub written : Size → List Vertex → Words → Words
written z st m =
    record {
      work = take (base z) m.work ++ over (vertex_words st) (drop (base z) m.work);
      wide = over (wide_words st) m.wide;
    }

-- a list with a and b from o on
unfoldable pub with_two : List ℕ → ℕ → ℕ → ℕ → List ℕ
with_two l o a b = set (set l o a) (o + 1) b

-- memory with vertex p stored
unfoldable pub with_vertex : Size → Words → ℕ → Vertex → Words
with_vertex z m p x =
    record {
      work = with_two m.work (base z + 2 * p) x.pred (mark_word x);
      wide = with_two m.wide (2 * p) x.g x.v;
    }

-- the predecessor of x, also where x is no vertex: one word of work memory
unfoldable pub pred_of : Size → List ℕ → ℕ → ℕ
pred_of z w x = cond (ltb x z.vertices) (get_or w (base z + 2 * x) 0) no_pred

-- ---- the graph

-- the number of the first edge of vertex t; for t = V the count of edges
unfoldable pub first_of : List ℕ → ℕ → ℕ
first_of w t = get_or w t 0

-- edge j, of the tail t
unfoldable pub edge_at : Size → List ℕ → ℕ → ℕ → Edge
edge_at z w t j =
    record {
      tail = t;
      head = get_or w (z.vertices + 1 + j) 0;
      cost = get_or w (z.vertices + 1 + z.edges + j) 0;
      class = get_or w (z.vertices + 1 + 2 * z.edges + j) 0;
    }

-- n edges of the tail t from edge j on
unfoldable pub edges_run : Size → List ℕ → ℕ → ℕ → ℕ → List Edge
edges_run z w t zero j = []
edges_run z w t (suc n) j = edge_at z w t j ∷ edges_run z w t n (suc j)

-- the edges of the tail t
unfoldable pub edges_at : Size → List ℕ → ℕ → List Edge
edges_at z w t = edges_run z w t (first_of w (suc t) - first_of w t) (first_of w t)

-- the edges of n tails from t on
unfoldable pub edges_under : Size → List ℕ → ℕ → ℕ → List Edge
edges_under z w zero t = []
edges_under z w (suc n) t = edges_at z w t ++ edges_under z w n (suc t)

unfoldable pub graph_of : Size → List ℕ → List Edge
graph_of z w = edges_under z w z.vertices 0

-- e is edge j of all edges
abbrev pub Numbered : Size → List ℕ → ℕ → Edge → Type 0
Numbered z w j e = (other : Edge) → e ≡ get_or (graph_of z w) j other

-- the words of a graph: first edges, heads, costs, classes
unfoldable pub graph_words : ℕ → List Edge → List ℕ
graph_words v es = first_edges (suc v) 0 es ++ (map head_of es ++ (map cost_of es ++ map class_of es))

-- the words with head, cost and class of edge j
unfoldable pub edge_put : Size → ℕ → Edge → List ℕ → List ℕ
edge_put z j e w =
    set (set (set w (z.vertices + 1 + j) e.head) (z.vertices + 1 + z.edges + j) e.cost) (z.vertices + 1 + 2 * z.edges + j) e.class

-- the words with edge j, which follows one with the tail `before`: the vertices after that tail, up to its own, begin with edge j
unfoldable pub with_edge : Size → ℕ → ℕ → Edge → List ℕ → List ℕ
with_edge z before j e w = edge_put z j e (sets w (before + 1) (replicate (e.tail - before) j))

-- ---- what contracts ask

-- work memory holds a graph, whatever words the vertices have
pub record Loaded (z : Size) (w : List ℕ) : Type 0 where
  pub room : WorkRoom z w
  pub rise : (t : ℕ) → t < z.vertices → first_of w t ≤ first_of w (suc t)
  pub ends : (t : ℕ) → t < z.vertices → first_of w (suc t) ≤ z.edges
  pub heads : (t j : ℕ) → j < z.edges → (edge_at z w t j).head < z.vertices
  pub classes : (t j : ℕ) → j < z.edges → (edge_at z w t j).class ≤ max_class

-- such memory, where each edge is under some vertex
pub record Whole (z : Size) (w : List ℕ) : Type 0 where
  pub graph : Loaded z w
  pub origin : first_of w 0 ≡ 0
  pub end : first_of w z.vertices ≡ z.edges

-- memory holds vertices and a graph
pub record Ready (z : Size) (m : Words) : Type 0 where
  pub room : Room z m
  pub graph : Loaded z m.work
  pub whole : written z (vertices_of z m) m ≡ m

-- what a function that writes vertices makes of memory: these vertices, and nothing else changed
pub record Becomes (z : Size) (st : List Vertex) (m m' : Words) : Type 0 where
  pub words : m' ≡ written z st m

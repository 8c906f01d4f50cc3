-- Laws of `Holds`: what memory holds is read back, and a change of the vertices keeps the rest.
use mathlib.Core.Path.{◌≡◌, refl, sym, ap, ◌∙◌}
use mathlib.Core.List.{List, [], ◌∷◌, ◌++◌, map, append_assoc}
use Prim.Native.Nat.{ℕ, zero, suc, ◌+◌, ◌*◌, ◌-◌, ◌≤◌, ◌<◌}
use native.Mathlib.Nat.{not-suc-le-zero, le_of_suc-le-suc, add-zero, zero-add}
use native.Mathlib.Omega.{arith}
use lib.ListN.{length, get_or, take, drop, length-append, length-drop, length-map, get_or-append, get_or-map, take-append-drop, drop_of_length-le}
use lib.Seq.{take_at, drop_at, drop-drop, drop-cons, get_or-append-add}
use Rattle.graph.specs.declared.Edge.{Edge}
use Rattle.graph.specs.Plan.{accepted, decode}
use Rattle.graph.specs.Lists.{head_of, cost_of, class_of, over}
use Rattle.graph.specs.OneForm.{EdgeWithin}
use Rattle.graph.proofs.Plan.{whole}
use Rattle.search.specs.declared.Vertex.{Vertex}
use Rattle.search.specs.Outcome.{edges_below, first_edges, vertex_words, work_words}
use Rattle.graph.specs.declared.Size.{Size}
use Rattle.workspace.specs.Layout.{base, Words, mem, WorkRoom, Room, vertices_of, written, first_of, edge_at, edges_run, edges_at, edges_under, graph_of, graph_words, Loaded, Whole, Ready, Becomes}
use Rattle.workspace.specs.Holds.{Rising, then, Holds}
use Rattle.workspace.proofs.Firsts.{passes_rising, below_none, below_all, below_rise, below_most, tail_at, length_firsts, length_graph, graph_columns}
use Rattle.workspace.proofs.Written.{vertices_of_written, written_written, first_written, ready_loaded, graph_of_written}

-- the edges of an accepted plan rise
pub accepted_rising : (s : List ℕ) (v : ℕ) (es : List Edge) → decode s ≡ accepted v es → Rising v 0 es
accepted_rising s v es h = passes_rising v 0 0 0 es (whole s v es h).passes

-- ---- the words of a graph, read

-- the first edge numbers
get_d_firsts : (n t : ℕ) (es : List Edge) (i : ℕ) → i < n → get_or (first_edges n t es) i 0 ≡ edges_below (t + i) es
unfolding first_edges
get_d_firsts zero t es i h = absurd (not-suc-le-zero h)
get_d_firsts (suc n) t es zero h = rw add-zero
get_d_firsts (suc n) t es (suc i) h =
    let e : suc t + i ≡ t + suc i = omega arith in
    get_d_firsts n (suc t) es i (le_of_suc-le-suc h) ∙ ap (λ (k : ℕ). edges_below k es) e

get_d_right : (a r : List ℕ) (n i : ℕ) → length a ≡ n → get_or (a ++ r) (n + i) 0 ≡ get_or r i 0
get_d_right a r n i e = rw (← e) (get_or-append-add a r i 0)

-- no edge
no_edge : Edge
no_edge = record { tail = 0; head = 0; cost = 0; class = 0 }

tail_is : (e : Edge) (t : ℕ) → e.tail ≡ t → ◌≡◌ {A = Edge} (record { tail = t; head = e.head; cost = e.cost; class = e.class }) e
tail_is e t q = rw (← q)

-- edge j is within the limits
edge_within : {v p : ℕ} (es : List Edge) (j : ℕ) (d : Edge) → Rising v p es → j < length es → EdgeWithin v (get_or es j d)
edge_within [] j d r h = absurd (not-suc-le-zero h)
edge_within (e ∷ es) zero d (then a b r) h = b
edge_within (e ∷ es) (suc j) d (then a b r) h = edge_within es j d r (le_of_suc-le-suc h)

module _ (z : Size) (es : List Edge) (r : List ℕ) (le : length es ≡ z.edges) (rise : Rising z.vertices 0 es) where
  abbrev words : List ℕ
  words = graph_words z.vertices es ++ r

  abbrev firsts : List ℕ
  firsts = first_edges (suc z.vertices) 0 es

  -- the words from each column on
  abbrev from_classes : List ℕ
  from_classes = map class_of es ++ r

  abbrev from_costs : List ℕ
  from_costs = map cost_of es ++ from_classes

  abbrev from_heads : List ℕ
  from_heads = map head_of es ++ from_costs

  in_columns : words ≡ firsts ++ from_heads
  in_columns = graph_columns z.vertices es r

  lf : length firsts ≡ z.vertices + 1
  lf = length_firsts (suc z.vertices) 0 es ∙ omega arith

  -- behind the first edge numbers
  behind : (i j : ℕ) → i ≡ z.vertices + 1 + j → get_or words i 0 ≡ get_or from_heads j 0
  behind i j e = ap (λ (l : List ℕ). get_or l i 0) in_columns ∙ ap (λ (n : ℕ). get_or (firsts ++ from_heads) n 0) e ∙ get_d_right firsts from_heads (z.vertices + 1) j lf

  first_is : (t : ℕ) → t ≤ z.vertices → first_of words t ≡ edges_below t es
  unfolding first_of
  first_is t h =
      ap (λ (l : List ℕ). get_or l t 0) in_columns
      ∙ get_or-append firsts from_heads 0 t (omega (arith, lf))
      ∙ get_d_firsts (suc z.vertices) 0 es t (omega arith)
      ∙ ap (λ (k : ℕ). edges_below k es) (zero-add t)

  head_is : (j : ℕ) → j < z.edges → get_or words (z.vertices + 1 + j) 0 ≡ (get_or es j no_edge).head
  unfolding no_edge
  head_is j h =
      behind (z.vertices + 1 + j) j refl
      ∙ get_or-append (map head_of es) from_costs 0 j (omega (arith, length-map es head_of))
      ∙ get_or-map head_of es j no_edge

  cost_is : (j : ℕ) → j < z.edges → get_or words (z.vertices + 1 + z.edges + j) 0 ≡ (get_or es j no_edge).cost
  unfolding no_edge
  cost_is j h =
      behind (z.vertices + 1 + z.edges + j) (z.edges + j) (omega arith)
      ∙ get_d_right (map head_of es) from_costs z.edges j (length-map es head_of ∙ le)
      ∙ get_or-append (map cost_of es) from_classes 0 j (omega (arith, length-map es cost_of))
      ∙ get_or-map cost_of es j no_edge

  class_is : (j : ℕ) → j < z.edges → get_or words (z.vertices + 1 + 2 * z.edges + j) 0 ≡ (get_or es j no_edge).class
  unfolding no_edge
  class_is j h =
      behind (z.vertices + 1 + 2 * z.edges + j) (z.edges + (z.edges + j)) (omega arith)
      ∙ get_d_right (map head_of es) from_costs z.edges (z.edges + j) (length-map es head_of ∙ le)
      ∙ get_d_right (map cost_of es) from_classes z.edges j (length-map es cost_of ∙ le)
      ∙ get_or-append (map class_of es) r 0 j (omega (arith, length-map es class_of))
      ∙ get_or-map class_of es j no_edge

  edge_is : (t j : ℕ) → edges_below t es ≤ j → j < edges_below (suc t) es → edge_at z words t j ≡ get_or es j no_edge
  unfolding edge_at
  edge_is t j a b =
      let l : j < z.edges = omega (arith, below_most (suc t) es) in
      rw (head_is j l, cost_is j l, class_is j l) (tail_is (get_or es j no_edge) t (tail_at t es j no_edge rise a b))

  -- the edges under each tail, and under all

  run_is :
      (t n j : ℕ) → edges_below t es ≤ j → j + n ≤ edges_below (suc t) es → edges_run z words t n j ≡ take n (drop j es)
  unfolding edges_run
  run_is t zero j a b = refl
  run_is t (suc n) j a b =
      rw (drop-cons es j no_edge (omega (arith, below_most (suc t) es)), edge_is t j a (omega arith), run_is t n (suc j) (omega arith) (omega arith))

  at_is : (t : ℕ) → t < z.vertices → edges_at z words t ≡ take (edges_below (suc t) es - edges_below t es) (drop (edges_below t es) es)
  unfolding edges_at
  at_is t h =
      rw (first_is t (omega arith), first_is (suc t) h)
      (run_is t (edges_below (suc t) es - edges_below t es) (edges_below t es) (omega arith) (omega (arith, below_rise t es)))

  under_is : (n t : ℕ) → t + n ≡ z.vertices → edges_under z words n t ≡ drop (edges_below t es) es
  unfolding edges_under
  under_is zero t e =
      let p : t ≡ z.vertices = omega arith in
      let q : length es ≤ edges_below t es = rw p (omega (arith, below_all es rise)) in
      sym (drop_of_length-le es q)
  under_is (suc n) t e =
      let a : ℕ = edges_below t es in
      let k : ℕ = edges_below (suc t) es - edges_below t es in
      let s : a + k ≡ edges_below (suc t) es = omega (arith, below_rise t es) in
      let d : drop k (drop a es) ≡ drop (edges_below (suc t) es) es = drop-drop k a es ∙ ap (λ (i : ℕ). drop i es) s in
      rw (at_is t (omega arith), under_is n (suc t) (omega arith), ← d) (take-append-drop k (drop a es))

  origin_is : first_of words 0 ≡ 0
  origin_is = first_is 0 (omega arith) ∙ below_none 0 es rise (omega arith)

  end_is : first_of words z.vertices ≡ z.edges
  end_is = first_is z.vertices (omega arith) ∙ below_all es rise ∙ le

  pub graph_is : graph_of z words ≡ es
  unfolding graph_of
  graph_is = under_is z.vertices 0 (omega arith) ∙ rw (below_none 0 es rise (omega arith))

  pub graph_loaded : WorkRoom z words → Loaded z words
  unfolding edge_at
  graph_loaded room =
      record {
        room = room;
        rise = λ t h. rw (first_is t (omega arith), first_is (suc t) h) (below_rise t es);
        ends = λ t h. rw (first_is (suc t) h) (omega (arith, below_most (suc t) es));
        heads = λ t j h. rw (head_is j h) (edge_within es j no_edge rise (omega arith)).head;
        classes = λ t j h. rw (class_is j h) (edge_within es j no_edge rise (omega arith)).class;
      }

-- ---- what work memory holds

-- the vertices follow the graph
work_words_lem : (v : ℕ) (es : List Edge) (st : List Vertex) → work_words v es st ≡ graph_words v es ++ vertex_words st
unfolding work_words
work_words_lem v es st = sym (graph_columns v es (vertex_words st))

-- a graph over the words of memory
abbrev pub with_graph : Size → List Edge → Words → Words
with_graph z es old = mem (over (graph_words z.vertices es) old.work) old.wide

module _ (z : Size) (es : List Edge) (old : Words) (le : length es ≡ z.edges) where
  graph_length : length (graph_words z.vertices es) ≡ base z
  unfolding base
  graph_length = length_graph z.vertices es ∙ ap (λ (k : ℕ). z.vertices + 1 + 3 * k) le

  -- vertices over a graph over the words
  work_written : (st : List Vertex) → (written z st (with_graph z es old)).work ≡ over (work_words z.vertices es st) old.work
  unfolding written over
  work_written st =
      let g : List ℕ = graph_words z.vertices es in
      let n : length (g ++ vertex_words st) ≡ length g + length (vertex_words st) = length-append g (vertex_words st) in
      rw (
        take_at g (drop (length g) old.work) (base z) graph_length,
        drop_at g (drop (length g) old.work) (base z) graph_length,
        drop-drop (length (vertex_words st)) (length g) old.work,
        work_words_lem z.vertices es st,
        n,
      )
      (sym (append_assoc g (vertex_words st) (drop (length g + length (vertex_words st)) old.work)))

  pub graph_room : Room z old → Room z (with_graph z es old)
  unfolding over
  graph_room room =
      let g : List ℕ = graph_words z.vertices es in
      record {
        work = omega (arith, length-append g (drop (length g) old.work), length-drop (length g) old.work, graph_length, room.work);
        wide = room.wide;
      }

-- the graph alone, loaded over the words
pub whole_loaded : (z : Size) (es : List Edge) (old : Words) → Room z old → length es ≡ z.edges → Rising z.vertices 0 es → Whole z (with_graph z es old).work
unfolding over
whole_loaded z es old room le rise =
    let r : List ℕ = drop (length (graph_words z.vertices es)) old.work in
    record {
      graph = graph_loaded z es r le rise (graph_room z es old le room).work;
      origin = origin_is z es r le rise;
      end = end_is z es r le rise;
    }

-- a graph loaded over the words, and vertices laid
pub holds_laid :
    (z : Size) (es : List Edge) (st : List Vertex) (old u m : Words) → Room z old → length es ≡ z.edges → Rising z.vertices 0 es →
    length st ≡ z.vertices → u ≡ with_graph z es old → Becomes z st u m → Holds z es st old m
unfolding written
holds_laid z es st old u m room le rise lv f g =
    record {
      words = ap (λ (x : Words). x.work) (g.words ∙ ap (written z st) f) ∙ work_written z es old le st;
      numbers = ap (λ (x : Words). x.wide) (g.words ∙ ap (written z st) f);
      room = room;
      vertices = lv;
      edges = le;
      rising = rise;
    }

module _ (z : Size) (es : List Edge) (st : List Vertex) (old m : Words) (h : Holds z es st old m) where
  abbrev loaded : Words
  loaded = with_graph z es old

  as_written : m ≡ written z st loaded
  unfolding written
  as_written = ap (λ (w : List ℕ). mem w m.wide) (h.words ∙ sym (work_written z es old h.edges st)) ∙ ap (mem _) h.numbers

  loaded_room : Room z loaded
  loaded_room = graph_room z es old h.edges h.room

  loaded_graph : Loaded z loaded.work
  unfolding over
  loaded_graph =
      graph_loaded z es (drop (length (graph_words z.vertices es)) old.work) h.edges h.rising loaded_room.work

  pub holds_vertices : vertices_of z m ≡ st
  holds_vertices = ap (vertices_of z) as_written ∙ vertices_of_written z loaded loaded_room st h.vertices

  pub holds_graph : graph_of z m.work ≡ es
  unfolding over
  holds_graph =
      ap (λ (x : Words). graph_of z x.work) as_written
      ∙ graph_of_written z loaded loaded_room loaded_graph st h.vertices
      ∙ graph_is z es (drop (length (graph_words z.vertices es)) old.work) h.edges h.rising

  first_loaded : (t : ℕ) → t ≤ z.vertices → first_of m.work t ≡ first_of loaded.work t
  first_loaded t l = ap (λ (x : Words). first_of x.work t) as_written ∙ first_written z loaded loaded_room st h.vertices t l

  pub holds_ready : Ready z m
  holds_ready = rw as_written (ready_loaded z loaded loaded_room loaded_graph st h.vertices)

  pub holds_whole : Whole z m.work
  unfolding over
  holds_whole =
      let r : List ℕ = drop (length (graph_words z.vertices es)) old.work in
      record {
        graph = holds_ready.graph;
        origin = first_loaded 0 (omega arith) ∙ origin_is z es r h.edges h.rising;
        end = first_loaded z.vertices (omega arith) ∙ end_is z es r h.edges h.rising;
      }

  -- other vertices written
  pub holds_written : (su : List Vertex) (m' : Words) → length su ≡ z.vertices → Becomes z su m m' → Holds z es su old m'
  holds_written su m' e f =
      holds_laid z es su old loaded m' h.room h.edges h.rising e refl
      (record {
        words =
            f.words
            ∙ ap (written z su) as_written
            ∙ written_written z loaded loaded_room st h.vertices su (e ∙ sym h.vertices);
      })

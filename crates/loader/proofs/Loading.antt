-- Laws for the code that loads a graph: the words after an edge, and after all of them.
use mathlib.Core.Path.{◌≡◌, refl, sym, ap, ◌∙◌}
use mathlib.Core.List.{List, [], ◌∷◌, ◌++◌, map, append-nil}
use Prim.Native.Nat.{ℕ, suc, ◌+◌, ◌*◌, ◌-◌, ◌≤◌, ◌<◌}
use native.Mathlib.Numerals.{add-one}
use native.Mathlib.Omega.{arith}
use borrow.Rule.Slice.PartMut.{put_mid, mid_of}
use lib.ListN.{length, set, take, drop, replicate, length-replicate, length-drop, length-set, length-map, take-append-drop, drop_of_length-le}
use lib.Seq.{sets, sets-eq, length-sets, set-append_left, length-take-le, drop-drop}
use Rattle.graph.specs.declared.Edge.{Edge}
use Rattle.graph.specs.declared.Cursor.{Cursor}
use Rattle.std.specs.Prelude.{Ok}
use Rattle.graph.specs.Refusal.{EdgeRead, size_of}
use Rattle.graph.specs.Plan.{accepted, first_at, past, next_edge, edges_from, sizes}
use Rattle.graph.specs.Lists.{head_of, cost_of, class_of, over, edges_in}
use Rattle.plan_check.specs.Past.{cursor_past}
use Rattle.graph.proofs.OneEdge.{Read, read_edge, edge_passes, passes_within}
use Rattle.graph.proofs.Plan.{First, Accepts, accepts}
use Rattle.plan_check.proofs.Checked.{Stored, stored_next, first, cursor_next, none_left, sized_by}
use Rattle.search.specs.Outcome.{first_edges}
use Rattle.graph.specs.declared.Size.{Size}
use Rattle.workspace.specs.Layout.{base, graph_words, edge_put, with_edge}
use Rattle.workspace.specs.Holds.{Rising, end, then}
use Rattle.workspace.proofs.Written.{set_after}
use Rattle.workspace.proofs.Firsts.{passes_rising, below_none, length_graph, columns, graph_columns}
use Rattle.loader.specs.Stored.{edge_stored}
use Rattle.loader.proofs.Counts.{counts_first, filled_part, firsts_from, firsts_are}

-- ---- one edge

-- the tail of the next edge does not fall, and is a vertex; the cursor past it has that tail
pub record NextTail (v : ℕ) (c : Cursor) (e : Edge) (c' : Cursor) : Type 0 where
  pub rises : c.tail ≤ e.tail
  pub vertex : e.tail < v
  pub past : c'.tail ≡ e.tail

pub next_tail : (v : ℕ) (s : List ℕ) (c : Cursor) (e : Edge) (c' : Cursor) → next_edge v s c ≡ Ok (e, c') → NextTail v c e c'
unfolding past
next_tail v s c e c' h =
    let r : (Read v s c e c'.at) × (c' ≡ past e c'.at) = read_edge v s c e c' h in
    record {
      rises = r.0.rising;
      vertex = (passes_within v c.tail c.least e (edge_passes r.0)).tail;
      past = ap (λ (x : Cursor). x.tail) r.1;
    }

module _ (z : Size) (s : List ℕ) (j : ℕ) (w : List ℕ) (c : Cursor) where
  abbrev r : EdgeRead
  r = next_edge z.vertices s c

  pub loaded_one :
      (e : Edge) (c' : Cursor) (part w' : List ℕ) → r ≡ Ok (e, c') → base z ≤ length w →
      part ≡ replicate (length (mid_of (c.tail + 1) (e.tail + 1 - (c.tail + 1)) w)) j →
      w' ≡ edge_put z j e (put_mid (c.tail + 1) (e.tail + 1 - (c.tail + 1)) w part) →
      (c' ≡ cursor_past c r) × (w' ≡ edge_stored z c.tail j w r)
  unfolding cursor_past edge_stored with_edge base
  loaded_one e c' part w' q room h k =
      let t : NextTail z.vertices c e c' = next_tail z.vertices s c e c' q in
      let n : e.tail + 1 - (c.tail + 1) ≡ e.tail - c.tail = omega arith in
      let f : put_mid (c.tail + 1) (e.tail + 1 - (c.tail + 1)) w part ≡ sets w (c.tail + 1) (replicate (e.tail + 1 - (c.tail + 1)) j) =
      filled_part (c.tail + 1) (e.tail + 1) j w part (omega (arith, t.rises)) (omega (arith, t.vertex)) h in
      (rw q, rw (q, k, f, n))

length_with : (z : Size) (p j : ℕ) (e : Edge) (w : List ℕ) → length (with_edge z p j e w) ≡ length w
unfolding with_edge edge_put
length_with z p j e w = simp (length-set, length-sets)

-- ---- all edges, as the loader stores them: after the tail p, from edge j on

unfoldable pub load_from : Size → ℕ → ℕ → List Edge → List ℕ → List ℕ
load_from z j p [] w = sets w (p + 1) (replicate (z.vertices - p) j)
load_from z j p (e ∷ es) w = load_from z (suc j) e.tail es (with_edge z p j e w)

sets_left : (vs a r : List ℕ) (i : ℕ) → i + length vs ≤ length a → sets (a ++ r) i vs ≡ sets a i vs ++ r
sets_left [] a r i h = refl
sets_left (v ∷ vs) a r i h =
    rw (set-append_left a r i v (omega arith))
    (sets_left vs (set a i v) r (suc i) (omega (arith, length-set a i v)))

set_right : (a r : List ℕ) (n i v : ℕ) → length a ≡ n → set (a ++ r) (n + i) v ≡ a ++ set r i v
set_right a r n i v e = rw (← e) (set_after a r i v)

-- a word set in each column
module _ (n m j : ℕ) (f h c k r : List ℕ) (lf : length f ≡ n) (lh : length h ≡ m) (lc : length c ≡ m) (lk : length k ≡ m) (lj : j < m) where
  head_column : (x : ℕ) → set (columns f h c k r) (n + j) x ≡ columns f (set h j x) c k r
  head_column x =
      set_right f (h ++ (c ++ (k ++ r))) n j x lf ∙ ap (λ (l : List ℕ). f ++ l) (set-append_left h (c ++ (k ++ r)) j x (omega arith))

  cost_column : (x : ℕ) → set (columns f h c k r) (n + (m + j)) x ≡ columns f h (set c j x) k r
  cost_column x =
      set_right f (h ++ (c ++ (k ++ r))) n (m + j) x lf
      ∙ ap (λ (l : List ℕ). f ++ l)
      (set_right h (c ++ (k ++ r)) m j x lh ∙ ap (λ (l : List ℕ). h ++ l) (set-append_left c (k ++ r) j x (omega arith)))

  class_column : (x : ℕ) → set (columns f h c k r) (n + (m + (m + j))) x ≡ columns f h c (set k j x) r
  class_column x =
      set_right f (h ++ (c ++ (k ++ r))) n (m + (m + j)) x lf
      ∙ ap (λ (l : List ℕ). f ++ l)
      (set_right h (c ++ (k ++ r)) m (m + j) x lh
      ∙ ap (λ (l : List ℕ). h ++ l)
      (set_right c (k ++ r) m j x lc ∙ ap (λ (l : List ℕ). c ++ l) (set-append_left k r j x (omega arith))))

module _ (z : Size) (r : List ℕ) where
  -- columns of as many words as the graph has
  record Sized (f h c k : List ℕ) : Type 0 where
    firsts : length f ≡ suc z.vertices
    heads : length h ≡ z.edges
    costs : length c ≡ z.edges
    classes : length k ≡ z.edges

  module _ (j p : ℕ) (e : Edge) (f h c k : List ℕ) (s : Sized f h c k) where
    -- the first edge numbers after the edge
    abbrev filled : List ℕ
    filled = sets f (p + 1) (replicate (e.tail - p) j)

    sized_next : Sized filled (set h j e.head) (set c j e.cost) (set k j e.class)
    sized_next =
        record {
          firsts = length-sets f (p + 1) (replicate (e.tail - p) j) ∙ s.firsts;
          heads = length-set h j e.head ∙ s.heads;
          costs = length-set c j e.cost ∙ s.costs;
          classes = length-set k j e.class ∙ s.classes;
        }

    edge_columns :
        j < z.edges → p ≤ z.vertices → e.tail < z.vertices →
        with_edge z p j e (columns f h c k r) ≡ columns filled (set h j e.head) (set c j e.cost) (set k j e.class) r
    unfolding with_edge edge_put
    edge_columns lj lp lt =
        let t : Sized filled (set h j e.head) (set c j e.cost) (set k j e.class) = sized_next in
        let n : ℕ = z.vertices + 1 in
        let m : ℕ = z.edges in
        let lr : length (replicate (e.tail - p) j) ≡ e.tail - p = length-replicate (e.tail - p) j in
        let lg : length filled ≡ n = t.firsts ∙ omega arith in
        let x : n + m + j ≡ n + (m + j) = omega arith in
        let y : n + 2 * m + j ≡ n + (m + (m + j)) = omega arith in
        let a : sets (columns f h c k r) (p + 1) (replicate (e.tail - p) j) ≡ columns filled h c k r =
        sets_left (replicate (e.tail - p) j) f (h ++ (c ++ (k ++ r))) (p + 1) (omega (arith, s.firsts)) in
        rw (
          a,
          head_column n m j filled h c k r lg s.heads s.costs s.classes lj e.head,
          x,
          cost_column n m j filled (set h j e.head) c k r lg t.heads s.costs s.classes lj e.cost,
          y,
          class_column n m j filled (set h j e.head) (set c j e.cost) k r lg t.heads t.costs s.classes lj e.class,
        )

  load_columns :
      (j p : ℕ) (es : List Edge) (f h c k : List ℕ) → Sized f h c k → j + length es ≤ z.edges → p ≤ z.vertices → Rising z.vertices p es →
      load_from z j p es (columns f h c k r)
      ≡ columns (firsts_from z.vertices j p es f) (sets h j (map head_of es)) (sets c j (map cost_of es)) (sets k j (map class_of es)) r
  unfolding load_from firsts_from
  load_columns j p [] f h c k s room lp (end) =
      sets_left (replicate (z.vertices - p) j) f (h ++ (c ++ (k ++ r))) (p + 1) (omega (arith, length-replicate (z.vertices - p) j, s.firsts))
  load_columns j p (e ∷ es) f h c k s room lp (then a b t) =
      ap (load_from z (suc j) e.tail es) (edge_columns j p e f h c k s (omega arith) lp b.tail)
      ∙ load_columns (suc j) e.tail es (filled j p e f h c k s) (set h j e.head) (set c j e.cost) (set k j e.class)
      (sized_next j p e f h c k s) (omega arith) (omega (arith, b.tail)) t

-- ---- the whole graph

first_zero : (n : ℕ) (f : List ℕ) → length f ≡ suc n → take (0 + 1) (set f 0 0) ≡ 0 ∷ []
first_zero n [] e = absurd (omega arith)
first_zero n (x ∷ f) e = refl

firsts_whole : (v : ℕ) (es : List Edge) (f : List ℕ) → Rising v 0 es → length f ≡ suc v → firsts_from v 0 0 es (set f 0 0) ≡ first_edges (suc v) 0 es
unfolding first_edges
firsts_whole v es f r l =
    let n : v - 0 ≡ v = omega arith in
    firsts_are v 0 0 es (set f 0 0) r (omega arith) (length-set f 0 0 ∙ l)
    ∙ rw (first_zero v f l, n, counts_first v 1 es, below_none 0 es r (omega arith))

sets_whole : (vs l : List ℕ) → length vs ≡ length l → sets l 0 vs ≡ vs
sets_whole vs l e =
    let d : drop (0 + length vs) l ≡ [] = drop_of_length-le l {i = 0 + length vs} (omega arith) in
    sets-eq vs l 0 (omega arith) ∙ rw d (append-nil vs)

-- one field of every edge, over a column
column_whole : (z : Size) (es : List Edge) (field : Edge → ℕ) (l : List ℕ) → length es ≡ z.edges → length l ≡ z.edges → sets l 0 (map field es) ≡ map field es
column_whole z es field l le ll = sets_whole (map field es) l (length-map es field ∙ le ∙ sym ll)

-- work memory in its columns
module _ (v m : ℕ) (w : List ℕ) where
  abbrev from_heads : List ℕ
  from_heads = drop (suc v) w

  abbrev from_costs : List ℕ
  from_costs = drop m from_heads

  abbrev from_classes : List ℕ
  from_classes = drop m from_costs

  split_columns : columns (take (suc v) w) (take m from_heads) (take m from_costs) (take m from_classes) (drop (v + 1 + 3 * m) w) ≡ w
  split_columns =
      let i : suc v + m + m + m ≡ v + 1 + 3 * m = omega arith in
      let d : drop (v + 1 + 3 * m) w ≡ drop m from_classes =
      ap (λ (k : ℕ). drop k w) (sym i)
      ∙ sym (drop-drop m (suc v + m + m) w)
      ∙ ap (drop m) (sym (drop-drop m (suc v + m) w) ∙ ap (drop m) (sym (drop-drop m (suc v) w))) in
      rw (d, take-append-drop m from_classes, take-append-drop m from_costs, take-append-drop m from_heads, take-append-drop (suc v) w)

pub load_whole :
    (z : Size) (es : List Edge) (w : List ℕ) → base z ≤ length w → length es ≡ z.edges → Rising z.vertices 0 es →
    load_from z 0 0 es (set w 0 0) ≡ over (graph_words z.vertices es) w
unfolding base over
load_whole z es w room le rise =
    let v : ℕ = z.vertices in
    let m : ℕ = z.edges in
    let f : List ℕ = take (suc v) w in
    let h : List ℕ = take m (from_heads v m w) in
    let c : List ℕ = take m (from_costs v m w) in
    let k : List ℕ = take m (from_classes v m w) in
    let r : List ℕ = drop (v + 1 + 3 * m) w in
    let s : Sized z r (set f 0 0) h c k =
    record {
      firsts = length-set f 0 0 ∙ length-take-le (suc v) w (omega arith);
      heads = length-take-le m (from_heads v m w) (simp length-drop (omega arith));
      costs = length-take-le m (from_costs v m w) (simp length-drop (omega arith));
      classes = length-take-le m (from_classes v m w) (simp length-drop (omega arith));
    } in
    let lf : length f ≡ suc v = sym (length-set f 0 0) ∙ s.firsts in
    let a : set w 0 0 ≡ columns (set f 0 0) h c k r =
    ap (λ (l : List ℕ). set l 0 0) (sym (split_columns v m w)) ∙ set-append_left f (h ++ (c ++ (k ++ r))) 0 0 (omega arith) in
    let b : load_from z 0 0 es (columns (set f 0 0) h c k r)
    ≡ columns (firsts_from v 0 0 es (set f 0 0)) (sets h 0 (map head_of es)) (sets c 0 (map cost_of es)) (sets k 0 (map class_of es)) r =
    load_columns z r 0 0 es (set f 0 0) h c k s (omega arith) (omega arith) rise in
    let d : columns (firsts_from v 0 0 es (set f 0 0)) (sets h 0 (map head_of es)) (sets c 0 (map cost_of es)) (sets k 0 (map class_of es)) r
    ≡ columns (first_edges (suc v) 0 es) (map head_of es) (map cost_of es) (map class_of es) r =
    cc (
      firsts_whole v es f rise lf,
      column_whole z es head_of h le s.heads,
      column_whole z es cost_of c le s.costs,
      column_whole z es class_of k le s.classes,
    ) in
    let n : length (graph_words v es) ≡ v + 1 + 3 * m = length_graph v es ∙ ap (λ (i : ℕ). v + 1 + 3 * i) le in
    ap (load_from z 0 0 es) a ∙ b ∙ d ∙ sym (graph_columns v es r) ∙ ap (λ (i : ℕ). graph_words v es ++ drop i w) (sym n)

-- ---- the loop: j edges were stored, and the cursor stands before the rest

pub record Loading (z : Size) (s : List ℕ) (at : ℕ) (w₀ w : List ℕ) (j : ℕ) (c : Cursor) : Type 0 where
  pub size : length w ≡ length w₀
  pub tail : c.tail ≤ z.vertices
  pub stored : Stored z.vertices z.edges s j c
  pub rest :
      load_from z j c.tail (edges_in (edges_from z.vertices (z.edges - j) s c)) w
      ≡ load_from z 0 0 (edges_in (edges_from z.vertices z.edges s (first_at at))) w₀

module _ (z : Size) (s : List ℕ) (at : ℕ) (w₀ : List ℕ) where
  module _ (w : List ℕ) (j : ℕ) (c : Cursor) (k : Loading z s at w₀ w j c) where
    pub loading_next :
        (w' : List ℕ) (c' : Cursor) → j < z.edges → c' ≡ cursor_past c (next_edge z.vertices s c) →
        w' ≡ edge_stored z c.tail j w (next_edge z.vertices s c) → Loading z s at w₀ w' (j + 1) c'
    unfolding edge_stored edges_in load_from
    loading_next w' c' more q g =
        let v : ℕ = z.vertices in
        let m : ℕ = z.edges in
        let f : First v (m - suc j) s c v (edges_in (edges_from v (m - j) s c)) = first v m s at j c more k.stored in
        let t : NextTail v c f.edge f.after = next_tail v s c f.edge f.after f.is in
        let o : edges_in (edges_from v (m - suc j) s f.after) ≡ f.others = ap edges_in f.rest in
        rw (add-one j, q ∙ cursor_next v m s at j c more k.stored, g ∙ ap (edge_stored z c.tail j w) f.is)
        record {
          size = length_with z c.tail j f.edge w ∙ k.size;
          tail = omega (arith, t.vertex, t.past);
          stored = stored_next v m s at j c more k.stored;
          rest =
              cc (o, t.past)
              ∙ sym (ap (λ (es : List Edge). load_from z j c.tail es w) f.all)
              ∙ k.rest;
        }

    pub loading_all :
        (old part w' : List ℕ) → base z ≤ length old → w₀ ≡ set old 0 0 → z.edges ≤ j →
        sizes (edges_from z.vertices z.edges s (first_at at)) ≡ Ok (size_of z.vertices z.edges) →
        part ≡ replicate (length (mid_of (c.tail + 1) (z.vertices + 1 - (c.tail + 1)) w)) z.edges →
        w' ≡ put_mid (c.tail + 1) (z.vertices + 1 - (c.tail + 1)) w part →
        w' ≡ over (graph_words z.vertices (edges_in (edges_from z.vertices z.edges s (first_at at)))) old
    unfolding load_from base
    loading_all old part w' room begun done h p g =
        let v : ℕ = z.vertices in
        let m : ℕ = z.edges in
        let n : v + 1 - (c.tail + 1) ≡ v - c.tail = omega arith in
        let i : j ≡ m = omega (arith, k.stored.within) in
        let o : edges_in (edges_from v (m - j) s c) ≡ [] = none_left v m s at j c done k.stored in
        let x : (edges_from v m s (first_at at) ≡ accepted v (edges_in (edges_from v m s (first_at at)))) × (length (edges_in (edges_from v m s (first_at at))) ≡ m)
        = sized_by (edges_from v m s (first_at at)) v m h in
        let a : Accepts v m s (first_at at) v (edges_in (edges_from v m s (first_at at)))
        = accepts v s m (first_at at) v (edges_in (edges_from v m s (first_at at))) x.0 in
        g
        ∙ filled_part (c.tail + 1) (v + 1) m w part (omega (arith, k.tail)) (omega (arith, k.size, ap length begun, length-set old 0 0)) p
        ∙ ap (λ (y : ℕ). sets w (c.tail + 1) (replicate y m)) n
        ∙ ap (λ (y : ℕ). sets w (c.tail + 1) (replicate (v - c.tail) y)) (sym i)
        ∙ sym (ap (λ (es : List Edge). load_from z j c.tail es w) o)
        ∙ k.rest
        ∙ ap (load_from z 0 0 (edges_in (edges_from v m s (first_at at)))) begun
        ∙ load_whole z (edges_in (edges_from v m s (first_at at))) old room x.1 (passes_rising v 0 0 0 (edges_in (edges_from v m s (first_at at))) (a.passes 0))

-- Laws of `written`: what it keeps and what it gives back, one change after another, and one vertex stored.
use mathlib.Core.Path.{◌≡◌, refl, sym, ap, ◌∙◌}
use mathlib.Core.List.{List, [], ◌∷◌, ◌++◌}
use Prim.Native.Nat.{ℕ, zero, suc, ◌+◌, ◌*◌, ◌-◌, ◌≤◌, ◌<◌}
use native.Mathlib.Nat.{add_assoc, zero-add, suc-add}
use native.Mathlib.Omega.{arith}
use borrow.Author.Tests.{lt-ltb, le-ltb}
use lib.ListN.{length, get_or, set, drop, take, length-drop, length-append, length-set, take-append-drop, get_or-append, get_or-eq_default, replicate}
use lib.Seq.{get_or-drop, get_or-take, take_at, drop_at, length-take-le}
use Rattle.graph.specs.Lists.{over}
use Rattle.search.specs.declared.Vertex.{Vertex}
use Rattle.search.specs.Job.{at, fresh}
use Rattle.search.specs.Outcome.{mark_word, vertex_words}
use Rattle.search.proofs.Tools.{le_cases}
use Rattle.graph.specs.declared.Size.{Size}
use Rattle.workspace.specs.Layout.{base, Words, mem, Room, vertex_at, vertices_of, written, with_two, with_vertex, pred_of, first_of, edge_at, edges_run, edges_at, edges_under, graph_of, Loaded, Ready, Becomes}
use Rattle.workspace.proofs.Two.{length_vertices, at_vertices, over_none, length_over, vertices_over, over_over, over_set, over_more}

module _ (z : Size) (m : Words) where
  pub length_vertices_of : length (vertices_of z m) ≡ z.vertices
  unfolding vertices_of
  length_vertices_of = length_vertices z.vertices (drop (base z) m.work) m.wide

  pub at_vertices_of : (p : ℕ) → p < z.vertices → at (vertices_of z m) p ≡ vertex_at m.work (base z + 2 * p) m.wide (2 * p)
  unfolding vertices_of vertex_at
  at_vertices_of p h = at_vertices z.vertices (drop (base z) m.work) m.wide p h ∙ simp (get_or-drop, ← add_assoc)

  -- the one word of a predecessor is that of its vertex
  pub pred_is : (x : ℕ) → pred_of z m.work x ≡ (at (vertices_of z m) x).pred
  unfolding pred_of vertex_at at fresh
  pred_is x =
      le_cases z.vertices x
      (λ l.
      rw (le-ltb x z.vertices l) (sym (ap (λ (y : Vertex). y.pred) (get_or-eq_default (vertices_of z m) fresh (omega (arith, length_vertices_of))))))
      (λ l. rw (lt-ltb x z.vertices l) (sym (ap (λ (y : Vertex). y.pred) (at_vertices_of x l))))

  module _ (r : Room z m) (st : List Vertex) (e : length st ≡ z.vertices) where
    low : length (take (base z) m.work) ≡ base z
    low = length-take-le (base z) m.work (omega (arith, r.work))

    pub length_written : length (written z st m).work ≡ length m.work
    unfolding written
    length_written =
        let l : 2 * length st ≤ length (drop (base z) m.work) = simp (length-drop, e) (omega (arith, r.work)) in
        omega (arith, length-append (take (base z) m.work) (over (vertex_words st) (drop (base z) m.work)), length_over (λ (x : Vertex). x.pred) mark_word st (drop (base z) m.work) l, length-drop (base z) m.work, low)

    pub wide_written : length (written z st m).wide ≡ length m.wide
    unfolding written
    wide_written = length_over (λ (x : Vertex). x.g) (λ (x : Vertex). x.v) st m.wide (omega (arith, r.wide))

    pub vertices_of_written : vertices_of z (written z st m) ≡ st
    unfolding vertices_of written
    vertices_of_written = rw (drop_at _ _ (base z) low, ← e, vertices_over)

    pub written_written : (su : List Vertex) → length su ≡ length st → written z su (written z st m) ≡ written z su m
    unfolding written
    written_written su f =
        rw (
          drop_at _ _ (base z) low,
          take_at _ _ (base z) low,
          over_over (λ (x : Vertex). x.pred) mark_word su st _ f,
          over_over (λ (x : Vertex). x.g) (λ (x : Vertex). x.v) su st _ f,
        )

    pub get_d_written : (j : ℕ) → j < base z → get_or (written z st m).work j 0 ≡ get_or m.work j 0
    unfolding written
    get_d_written j h = get_or-append (take (base z) m.work) _ 0 j (omega (arith, low)) ∙ get_or-take (base z) m.work j 0 h

    pub whole_written : written z (vertices_of z (written z st m)) (written z st m) ≡ written z st m
    whole_written = rw (vertices_of_written, written_written st refl)

    pub first_written : (t : ℕ) → t ≤ z.vertices → first_of (written z st m).work t ≡ first_of m.work t
    unfolding first_of base
    first_written t h = get_d_written t (omega arith)

    pub edge_written : (t j : ℕ) → j < z.edges → edge_at z (written z st m).work t j ≡ edge_at z m.work t j
    unfolding edge_at base
    edge_written t j h =
        rw (
          get_d_written (z.vertices + 1 + j) (omega arith),
          get_d_written (z.vertices + 1 + z.edges + j) (omega arith),
          get_d_written (z.vertices + 1 + 2 * z.edges + j) (omega arith),
        )

    run_written : (t n j : ℕ) → j + n ≤ z.edges → edges_run z (written z st m).work t n j ≡ edges_run z m.work t n j
    unfolding edges_run
    run_written t zero j h = refl
    run_written t (suc n) j h = rw (edge_written t j (omega arith), run_written t n (suc j) (omega arith))

    pub edges_at_written :
        (t : ℕ) → t < z.vertices → first_of m.work t ≤ first_of m.work (suc t) → first_of m.work (suc t) ≤ z.edges →
        edges_at z (written z st m).work t ≡ edges_at z m.work t
    unfolding edges_at
    edges_at_written t h a b =
        rw (first_written t (omega arith), first_written (suc t) h, run_written t (first_of m.work (suc t) - first_of m.work t) (first_of m.work t) (omega arith))

-- ---- the graph stays

module _ (z : Size) (m : Words) (room : Room z m) (r : Loaded z m.work) (st : List Vertex) (e : length st ≡ z.vertices) where
  pub ready_loaded : Ready z (written z st m)
  ready_loaded =
      let s : Room z (written z st m)
      = record { work = rw (length_written z m room st e) room.work; wide = rw (wide_written z m room st e) room.wide } in
      record {
        room = s;
        graph =
            record {
              room = s.work;
              rise = λ t h. rw (first_written z m room st e t (omega arith), first_written z m room st e (suc t) h) (r.rise t h);
              ends = λ t h. rw (first_written z m room st e (suc t) h) (r.ends t h);
              heads = λ t j h. rw (edge_written z m room st e t j h) (r.heads t j h);
              classes = λ t j h. rw (edge_written z m room st e t j h) (r.classes t j h);
            };
        whole = whole_written z m room st e;
      }

  under_written : (n t : ℕ) → t + n ≤ z.vertices → edges_under z (written z st m).work n t ≡ edges_under z m.work n t
  unfolding edges_under
  under_written zero t h = refl
  under_written (suc n) t h =
      rw (edges_at_written z m room st e t (omega arith) (r.rise t (omega arith)) (r.ends t (omega arith)), under_written n (suc t) (omega arith))

  pub graph_of_written : graph_of z (written z st m).work ≡ graph_of z m.work
  unfolding graph_of
  graph_of_written = under_written z.vertices 0 (omega arith)

-- ---- one change after another: m₀ before all of them, m after some

-- none at all
pub unchanged : (z : Size) (m : Words) → Ready z m → Becomes z (vertices_of z m) m m
unchanged z m r = record { words = sym r.whole }

module _ (z : Size) (m₀ m : Words) (r : Ready z m₀) (k : Becomes z (vertices_of z m) m₀ m) where
  work_is : m.work ≡ (written z (vertices_of z m) m₀).work
  work_is = ap (λ (x : Words). x.work) k.words

  pub wide_kept : length m.wide ≡ length m₀.wide
  wide_kept = ap (λ (x : Words). length x.wide) k.words ∙ wide_written z m₀ r.room (vertices_of z m) (length_vertices_of z m)

-- ---- a store is one vertex of the list changed

pub set_after : (a r : List ℕ) (i v : ℕ) → set (a ++ r) (length a + i) v ≡ a ++ set r i v
set_after [] r i v = rw zero-add
set_after (x ∷ a) r i v = rw (suc-add, set_after a r i v)

two_after : (a r : List ℕ) (o x y : ℕ) → with_two (a ++ r) (length a + o) x y ≡ a ++ with_two r o x y
unfolding with_two
two_after a r o x y = simp (add_assoc, set_after)

module _ (z : Size) (m : Words) (r : Room z m) where
  in_vertices :
      (l : List ℕ) (o x y : ℕ) → with_two (take (base z) m.work ++ l) (base z + o) x y ≡ take (base z) m.work ++ with_two l o x y
  in_vertices l o x y =
      ap (λ n. with_two (take (base z) m.work ++ l) (n + o) x y) (sym (length-take-le (base z) m.work (omega (arith, r.work))))
      ∙ two_after (take (base z) m.work) l o x y

  -- vertices changed among those of memory
  laid_by :
      (a b u v : List ℕ) (p : ℕ) (x : Vertex) → with_two a (2 * p) x.pred (mark_word x) ≡ b → with_two u (2 * p) x.g x.v ≡ v →
      with_vertex z (mem (take (base z) m.work ++ a) u) p x ≡ mem (take (base z) m.work ++ b) v
  unfolding with_vertex
  laid_by a b u v p x e f = rw (in_vertices a (2 * p) x.pred (mark_word x), e, f)

  pub written_set : (st : List Vertex) (p : ℕ) (x : Vertex) → p < length st → with_vertex z (written z st m) p x ≡ written z (set st p x) m
  unfolding written
  written_set st p x h =
      laid_by _ _ _ _ p x
      (sym (over_set (λ (q : Vertex). q.pred) mark_word st (drop (base z) m.work) p x h))
      (sym (over_set (λ (q : Vertex). q.g) (λ (q : Vertex). q.v) st m.wide p x h))

  pub written_more :
      (p : ℕ) (x : Vertex) → p < z.vertices → with_vertex z (written z (replicate p x) m) p x ≡ written z (replicate (suc p) x) m
  unfolding written
  written_more p x h =
      let l : 2 * suc p ≤ length (drop (base z) m.work) = simp length-drop (omega (arith, r.work)) in
      laid_by _ _ _ _ p x
      (over_more (λ (q : Vertex). q.pred) mark_word p x (drop (base z) m.work) l)
      (over_more (λ (q : Vertex). q.g) (λ (q : Vertex). q.v) p x m.wide (omega (arith, r.wide)))

  pub written_none : m ≡ written z [] m
  unfolding written
  written_none =
      rw (
        over_none (λ (q : Vertex). q.pred) mark_word (drop (base z) m.work),
        over_none (λ (q : Vertex). q.g) (λ (q : Vertex). q.v) m.wide,
        take-append-drop (base z) m.work,
      )

module _ (z : Size) (m : Words) (p : ℕ) (x : Vertex) where
  pub length_stored : length (set (vertices_of z m) p x) ≡ z.vertices
  length_stored = length-set (vertices_of z m) p x ∙ length_vertices_of z m

  pub stored : Ready z m → p < z.vertices → with_vertex z m p x ≡ written z (set (vertices_of z m) p x) m
  stored r h =
      ap (λ (y : Words). with_vertex z y p x) (sym r.whole)
      ∙ written_set z m r.room (vertices_of z m) p x (omega (arith, length_vertices_of z m))

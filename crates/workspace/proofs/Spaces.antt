-- Laws of a workspace: what vertices written over it keep and give back, one change after another.
use mathlib.Core.Path.{◌≡◌, refl, sym, ap, ◌∙◌}
use mathlib.Core.List.{List}
use Prim.Native.Nat.{ℕ, ◌≤◌, ◌<◌}
use native.Mathlib.Omega.{arith}
use lib.ListN.{length, set, length-set, replicate, length-replicate}
use Rattle.std.specs.Borrow.{MutBor}
use Rattle.search.specs.declared.Vertex.{Vertex}
use Rattle.search.specs.Job.{fresh, origin, at_first}
use Rattle.graph.specs.declared.Size.{Size}
use Rattle.workspace.specs.declared.Vertices.{Vertices}
use Rattle.workspace.specs.declared.Workspace.{Workspace}
use Rattle.workspace.specs.Layout.{Words, mem, Room, vertices_of, with_vertex, written, first_of, edge_at, graph_of, Loaded, Whole, Ready, Becomes}
use Rattle.workspace.specs.Space.{vertices_seen, space_words, space_vertices, space_edges, Stores, Begins}
use Rattle.workspace.proofs.Written.{length_vertices_of, vertices_of_written, written_written, first_written, edge_written, ready_loaded, graph_of_written, stored, length_stored, unchanged}

-- ---- vertices written over memory that holds a graph

module _ (z : Size) (m m' : Words) (room : Room z m) (w : Loaded z m.work) (st : List Vertex) (e : length st ≡ z.vertices) (b : Becomes z st m m') where
  work_is : m'.work ≡ (written z st m).work
  work_is = ap (λ (x : Words). x.work) b.words

  pub becomes_ready : Ready z m'
  becomes_ready = rw b.words (ready_loaded z m room w st e)

  pub becomes_vertices : vertices_of z m' ≡ st
  becomes_vertices = ap (vertices_of z) b.words ∙ vertices_of_written z m room st e

  pub becomes_edges : graph_of z m'.work ≡ graph_of z m.work
  becomes_edges = ap (graph_of z) work_is ∙ graph_of_written z m room w st e

-- ---- a workspace after vertices were stored

pub length_vertices_in : (s : Workspace) → length (space_vertices s) ≡ s.size.vertices
length_vertices_in s = length_vertices_of s.size (space_words s)

-- the vertices that are read of it
pub seen_is :
    (s : Workspace) (v : Vertices) → v.work.now ≡ s.work.now → v.wide.now ≡ s.wide.now → v.size ≡ s.size → vertices_seen v ≡ space_vertices s
seen_is s v e f g = rw (e, f, g)

-- none at all
pub stores_none : (s : Workspace) → Stores (space_vertices s) s s
stores_none s =
    record { lent = record { size_is = refl; work_is = refl; wide_is = refl }; becomes = unchanged s.size (space_words s) s.ready }

module _ (s s' : Workspace) (st : List Vertex) (e : length st ≡ s.size.vertices) (f : Stores st s s') where
  size_as : {A : Type 0} (g : Size → A) → g s'.size ≡ g s.size
  size_as g = ap g f.lent.size_is

  pub stores_vertices : space_vertices s' ≡ st
  stores_vertices =
      size_as (λ z. vertices_of z (space_words s')) ∙ becomes_vertices s.size (space_words s) (space_words s') s.ready.room s.ready.graph st e f.becomes

  pub stores_edges : space_edges s' ≡ space_edges s
  stores_edges =
      size_as (λ z. graph_of z s'.work.now) ∙ becomes_edges s.size (space_words s) (space_words s') s.ready.room s.ready.graph st e f.becomes

  work_as : {A : Type 0} (g : List ℕ → A) → g s'.work.now ≡ g (written s.size st (space_words s)).work
  work_as g = ap (λ (x : Words). g x.work) f.becomes.words

  pub stores_edge : (t j : ℕ) → j < s.size.edges → edge_at s'.size s'.work.now t j ≡ edge_at s.size s.work.now t j
  stores_edge t j h =
      size_as (λ z. edge_at z s'.work.now t j)
      ∙ work_as (λ l. edge_at s.size l t j)
      ∙ edge_written s.size (space_words s) s.ready.room st e t j h

  -- other vertices over them
  pub stores_then : (s'' : Workspace) (su : List Vertex) → length su ≡ s.size.vertices → Stores su s' s'' → Stores su s s''
  stores_then s'' su q k =
      record {
        lent =
            record {
              size_is = k.lent.size_is ∙ f.lent.size_is;
              work_is = k.lent.work_is ∙ f.lent.work_is;
              wide_is = k.lent.wide_is ∙ f.lent.wide_is;
            };
        becomes =
            record {
              words =
                  k.becomes.words
                  ∙ size_as (λ z. written z su (space_words s'))
                  ∙ ap (written s.size su) f.becomes.words
                  ∙ written_written s.size (space_words s) s.ready.room st e su (q ∙ sym e);
            };
      }

-- one change after another: s₀ before all of them, s after some
module _ (s₀ s s' : Workspace) (k : Stores (space_vertices s) s₀ s) (st : List Vertex) (e : length st ≡ s.size.vertices) (f : Stores st s s') where
  counted : length (space_vertices s) ≡ s₀.size.vertices
  counted = length_vertices_in s ∙ ap (λ (z : Size). z.vertices) k.lent.size_is

  pub kept_then : Stores st s₀ s'
  kept_then = stores_then s₀ s (space_vertices s) counted k s' st (e ∙ sym (length_vertices_in s) ∙ counted) f

  pub kept_more : Stores (space_vertices s') s₀ s'
  kept_more = rw (stores_vertices s s' st e f) kept_then

-- ---- a workspace made of lent memories

pub length_first : (size start : ℕ) → length (at_first size start) ≡ size
unfolding at_first
length_first size start = length-set (replicate size fresh) start origin ∙ length-replicate size fresh

-- ---- one vertex stored

module _ (s : Workspace) (m' : Words) (p : ℕ) (x : Vertex) (h : p < s.size.vertices) (f : m' ≡ with_vertex s.size (space_words s) p x) where
  pub stored_becomes : Becomes s.size (set (space_vertices s) p x) (space_words s) m'
  stored_becomes = record { words = f ∙ stored s.size (space_words s) p x s.ready h }

  pub stored_ready : Ready s.size m'
  stored_ready = becomes_ready s.size (space_words s) m' s.ready.room s.ready.graph _ (length_stored s.size (space_words s) p x) stored_becomes

-- Laws for the code that lays the first vertices and opens them again at a round's beginning.
use mathlib.Core.Path.{◌≡◌, refl, ap, ◌∙◌}
use mathlib.Core.List.{List, ◌++◌, map, append-nil}
use Prim.Native.Nat.{ℕ, suc, ◌+◌, ◌≤◌, ◌<◌}
use native.Mathlib.Numerals.{add-one}
use native.Mathlib.Omega.{arith}
use lib.ListN.{length, get_or, set, take, drop, drop_of_length-le, replicate, length-replicate}
use lib.Seq.{take-suc-set, drop-set-lt, drop-cons, take_all, append_snoc}
use Rattle.search.specs.declared.Vertex.{Vertex}
use Rattle.search.specs.Job.{fresh, origin, at, at_first}
use Rattle.search.specs.Rounds.{reopened}
use Rattle.graph.specs.declared.Size.{Size}
use Rattle.workspace.specs.declared.Workspace.{Workspace}
use Rattle.workspace.specs.Layout.{Words, Room, written, with_vertex, Becomes}
use Rattle.workspace.specs.Space.{space_words, space_vertices, Stores}
use Rattle.workspace.proofs.Written.{written_set, written_more, length_stored}
use Rattle.workspace.proofs.Spaces.{length_vertices_in, stores_none, stores_vertices, kept_more}

-- ---- the loop that makes the vertices fresh

module _ (z : Size) (m₀ m m' : Words) (p : ℕ) (r : Room z m₀) (e : m ≡ written z (replicate p fresh) m₀) where
  pub fresh_more : p < z.vertices → m' ≡ with_vertex z m p fresh → m' ≡ written z (replicate (p + 1) fresh) m₀
  fresh_more h f = f ∙ ap (λ (x : Words). with_vertex z x p fresh) e ∙ rw add-one (written_more z m₀ r p fresh h)

  pub fresh_all :
      (start : ℕ) → p ≡ z.vertices → start < z.vertices → m' ≡ with_vertex z m start origin → Becomes z (at_first z.vertices start) m₀ m'
  unfolding at_first
  fresh_all start q h f =
      record {
        words =
            f ∙ ap (λ (x : Words). with_vertex z x start origin) (rw q at e)
            ∙ written_set z m₀ r (replicate z.vertices fresh) start origin (rw length-replicate h);
      }

-- ---- the loop that opens the vertices again: st₀ before it, st at its head

module _ (st₀ st : List Vertex) (p : ℕ) where
  abbrev Opened : List Vertex → ℕ → Type 0
  Opened l i = take i l ++ map reopened (drop i l) ≡ map reopened st₀

  opened_more : p < length st → Opened st p → Opened (set st p (reopened (at st p))) (p + 1)
  unfolding at
  opened_more h e =
      rw (add-one, take-suc-set st p (reopened (get_or st p fresh)) h, drop-set-lt (suc p) st p (reopened (get_or st p fresh)) (omega arith), append_snoc)
      (rw (drop-cons st p fresh h) at e)

  opened_all : length st ≤ p → Opened st p → st ≡ map reopened st₀
  opened_all h e = rw (take_all p st h, drop_of_length-le st h, append-nil) at e

-- the first p vertices are open again, nothing else changed: s₀ before the loop, s at its head
pub record Reopening (s₀ s : Workspace) (p : ℕ) : Type 0 where
  pub kept : Stores (space_vertices s) s₀ s
  pub opened : Opened (space_vertices s₀) (space_vertices s) p (space_vertices s) p

pub reopening_none : (s : Workspace) → Reopening s s 0
reopening_none s = record { kept = stores_none s; opened = refl }

module _ (s₀ s : Workspace) (p : ℕ) (k : Reopening s₀ s p) where
  sized : length (space_vertices s) ≡ s₀.size.vertices
  sized = length_vertices_in s ∙ ap (λ (z : Size). z.vertices) k.kept.lent.size_is

  pub reopening_more :
      (s' : Workspace) → p < s₀.size.vertices → Stores (set (space_vertices s) p (reopened (at (space_vertices s) p))) s s' → Reopening s₀ s' (p + 1)
  reopening_more s' h f =
      let e = length_stored s.size (space_words s) p (reopened (at (space_vertices s) p)) in
      record {
        kept = kept_more s₀ s s' k.kept _ e f;
        opened = rw (stores_vertices s s' _ e f) (opened_more (space_vertices s₀) (space_vertices s) p (omega (arith, sized)) k.opened);
      }

  pub reopening_all : s₀.size.vertices ≤ p → Stores (map reopened (space_vertices s₀)) s₀ s
  reopening_all h = rw (opened_all (space_vertices s₀) (space_vertices s) p (omega (arith, sized)) k.opened) at k.kept

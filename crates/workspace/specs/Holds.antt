-- Memory holds a graph and vertices, the one relation between its words and the state of a search: for contracts inside the planner call, nothing that a reader must believe.
use Rattle.std.specs.Prelude.{ℕ, ◌≤◌, ◌≡◌, List, [], ◌∷◌, length}
use Rattle.graph.specs.declared.Edge.{Edge}
use Rattle.graph.specs.Lists.{over}
use Rattle.graph.specs.OneForm.{EdgeWithin}
use Rattle.search.specs.declared.Vertex.{Vertex}
use Rattle.search.specs.Outcome.{work_words, wide_words}
use Rattle.graph.specs.declared.Size.{Size}
use Rattle.workspace.specs.Layout.{Words, Room}

-- edges within the limits of v vertices, whose tails rise from p on
pub data Rising (v : ℕ) : ℕ → List Edge → Type 0 where
  end : {p : ℕ} → Rising v p []
  then : {p : ℕ} {e : Edge} {es : List Edge} → p ≤ e.tail → EdgeWithin v e → Rising v e.tail es → Rising v p (e ∷ es)

-- memory m is that of the edges es and the vertices st, laid over `old`
pub record Holds (z : Size) (es : List Edge) (st : List Vertex) (old m : Words) : Type 0 where
  pub words : m.work ≡ over (work_words z.vertices es st) old.work
  pub numbers : m.wide ≡ over (wide_words st) old.wide
  pub room : Room z old
  pub vertices : length st ≡ z.vertices
  pub edges : length es ≡ z.edges
  pub rising : Rising z.vertices 0 es

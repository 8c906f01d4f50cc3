-- A graph, vertices and a workspace as what lies in their words: for contracts inside the planner call, nothing that a reader must believe.
use Rattle.std.specs.Prelude.{ℕ, ◌≡◌, List}
use Rattle.std.specs.Borrow.{MutBor}
use Rattle.graph.specs.declared.Edge.{Edge}
use Rattle.search.specs.declared.Vertex.{Vertex}
use Rattle.search.specs.Job.{at_first}
use Rattle.graph.specs.declared.Size.{Size}
use Rattle.workspace.specs.declared.Graph.{Graph}
use Rattle.workspace.specs.declared.Vertices.{Vertices}
use Rattle.workspace.specs.declared.Workspace.{Workspace}
use Rattle.workspace.specs.Layout.{Words, mem, vertices_of, graph_of, Becomes}

-- the edges of a graph
abbrev pub graph_edges : Graph → List Edge
graph_edges g = graph_of g.size g.words.now

-- the vertices in lent memory
abbrev pub vertices_seen : Vertices → List Vertex
vertices_seen v = vertices_of v.size (mem v.work.now v.wide.now)

-- the words and numbers of a workspace
abbrev pub space_words : Workspace → Words
space_words s = mem s.work.now s.wide.now

-- its vertices
abbrev pub space_vertices : Workspace → List Vertex
space_vertices s = vertices_of s.size (space_words s)

-- its edges
abbrev pub space_edges : Workspace → List Edge
space_edges s = graph_of s.size s.work.now

-- these memories are lent to s, for a graph of this size
pub record LentFor (z : Size) (work wide : MutBor (List ℕ)) (s : Workspace) : Type 0 where
  pub size_is : s.size ≡ z
  pub work_is : s.work.ghost_name ≡ work.ghost_name
  pub wide_is : s.wide.ghost_name ≡ wide.ghost_name

-- s' is s with these vertices, and nothing else changed
pub record Stores (st : List Vertex) (s s' : Workspace) : Type 0 where
  pub lent : LentFor s.size s.work s.wide s'
  pub becomes : Becomes s.size st (space_words s) (space_words s')

-- s is made of these memories, and has the vertices at first
pub record Begins (z : Size) (start : ℕ) (work wide : MutBor (List ℕ)) (s : Workspace) : Type 0 where
  pub lent : LentFor z work wide s
  pub becomes : Becomes z (at_first z.vertices start) (mem work.now wide.now) (space_words s)

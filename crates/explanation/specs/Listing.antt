-- The lists after a call, over its memory: for contracts of inner functions, nothing that a reader must believe.
use Rattle.std.specs.Prelude.{ℕ, ◌≤◌, ◌≡◌, Bool, true, false, List, length, Result, Ok, Err}
use Rattle.graph.specs.Refusal.{Header, size_of}
use Rattle.graph.specs.declared.refusal.Refusal.{Refusal}
use Rattle.graph.specs.Lists.{over}
use Rattle.text.specs.Laid.{Put}
use Rattle.search.specs.declared.Answer.{Answer}
use Rattle.search.specs.declared.Answer.TheVariants.{Route, NoRoute, Unfinished}
use Rattle.search.specs.declared.Explanation.{Explanation}
use Rattle.search.specs.Reason.{numbers_of, is_reached, leaves, listed_at}
use Rattle.graph.specs.declared.Size.{Size}
use Rattle.explanation.specs.declared.listed.Listed.{Listed}
use Rattle.workspace.specs.Layout.{Words, vertices_of, graph_of, Whole, Ready}

-- V and M of a plan's header
unfoldable pub size_in : Header → Size
size_in (Ok (z, at)) = z
size_in (Err e) = size_of 0 0

-- the answer is no route
unfoldable pub is_no_route : Result Answer Refusal → Bool
is_no_route (Ok (Route s)) = false
is_no_route (Ok (NoRoute t)) = true
is_no_route (Ok (Unfinished t)) = false
is_no_route (Err e) = false

-- memory from which lists are made, and room for them
pub record Source (z : Size) (m : Words) (vertices edges : List ℕ) : Type 0 where
  pub ready : Ready z m
  pub whole : Whole z m.work
  pub edge_count : length (graph_of z m.work) ≡ z.edges
  pub vertices_room : z.vertices ≤ length vertices
  pub edges_room : z.edges ≤ length edges

-- what is asked after a call with this answer
abbrev pub Listable : Result Answer Refusal → Size → Words → List ℕ → List ℕ → Type 0
Listable a z m vertices edges = is_no_route a ≡ true → Source z m vertices edges

-- what is listed then
unfoldable pub reached_in : Result Answer Refusal → Size → Words → List ℕ
reached_in a z m = listed_at a (numbers_of is_reached 0 (vertices_of z m))

unfoldable pub leaving_in : Result Answer Refusal → Size → ℕ → Words → List ℕ
leaving_in a z barred m = listed_at a (numbers_of (leaves barred (vertices_of z m)) 0 (graph_of z m.work))

-- what is answered, and the lists
pub record Lists (a : Result Answer Refusal) (z : Size) (barred : ℕ) (m : Words) (vertices edges : List ℕ) (r : Explanation Refusal) (vertices' edges' : List ℕ) : Type 0 where
  pub answer_is : r.answer ≡ a
  pub vertex_count : r.vertices ≡ length (reached_in a z m)
  pub edge_count : r.edges ≡ length (leaving_in a z barred m)
  pub vertices_are : vertices' ≡ over (reached_in a z m) vertices
  pub edges_are : edges' ≡ over (leaving_in a z barred m) edges

-- these numbers are listed after those of l
pub record Adds (numbers : List ℕ) (l l' : Listed) : Type 0 where
  pub lent : l'.words.ghost_name ≡ l.words.ghost_name
  pub put : Put l.count numbers l.words.now l'.count l'.words.now

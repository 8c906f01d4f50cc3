-- What a turn is asked, and what it chooses, as the code sees it: for contracts inside the planner call, nothing that a reader must believe.
use Rattle.std.specs.Prelude.{ℕ, ◌+◌, ◌-◌, ◌*◌, ◌≤◌, List, length, take, drop}
use Rattle.graph.specs.Limits.{max_vertices}
use Rattle.search.specs.declared.Choice.{Choice}
use Rattle.search.specs.declared.Factors.{Factors}
use Rattle.search.specs.Turn.{candidate, choose}
use Rattle.search.specs.Bounds.{max_factor, Priced}
use Rattle.graph.specs.declared.Size.{Size}
use Rattle.workspace.specs.Layout.{Words, vertices_of}

-- the numbers of inadmissible heuristic i (guide sheet i) among the flat sheets, v numbers each
unfoldable pub sheet : ℕ → ℕ → List ℕ → List ℕ
sheet v i sheets = take v (drop ((i - 1) * v) sheets)

-- what a turn of heuristic i expands, where the anchor's least key is m at vertex a
unfoldable pub choice_of : Size → Factors → List ℕ → Words → ℕ → ℕ → ℕ → Choice
choice_of z f sheets w m a i = choose f.w2 m a i (candidate i f.w1 (sheet z.vertices i sheets) (vertices_of z w))

-- a turn's log word: its vertex + 65,536 × its heuristic
unfoldable pub choice_word : Choice → ℕ
choice_word c = c.vertex + 65536 * c.heuristic

-- what a turn of heuristic i asks of its arguments
pub record Asked (z : Size) (f : Factors) (guides : List ℕ) (m : Words) (i : ℕ) : Type 0 where
  pub priced : Priced (vertices_of z m)
  pub sheets : i * z.vertices ≤ length guides
  pub few : i ≤ 8
  pub small : z.vertices ≤ max_vertices
  pub w1 : f.w1 ≤ max_factor
  pub w2 : f.w2 ≤ max_factor

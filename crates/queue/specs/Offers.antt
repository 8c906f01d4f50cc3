-- What a table is offered of a vertex, as the code has it: for contracts of inner functions, nothing that a reader must believe.
use Rattle.std.specs.Prelude.{ℕ, ◌≡◌, Option}
use Rattle.std.specs.Option.{is_some, unwrap_or}
use Rattle.search.specs.declared.Vertex.{Vertex}
use Rattle.search.specs.Turn.{offered}
use Rattle.queue.specs.Table.{entry_for}

-- heuristic i, whose number for vertex s is h, is offered r of it, which is x
pub record Offers (i w1 h : ℕ) (x : Vertex) (s : ℕ) (r : Option ℕ) : Type 0 where
  pub on : is_some r ≡ offered i h x
  pub entry : unwrap_or r 0 ≡ entry_for w1 h x s (is_some r)

-- An edge stored in work memory: for the contract of a private function alone, nothing that a reader must believe.
use Rattle.std.specs.Prelude.{ℕ, List, Ok, Err}
use Rattle.graph.specs.Refusal.{EdgeRead}
use Rattle.graph.specs.declared.Size.{Size}
use Rattle.workspace.specs.Layout.{with_edge}

-- the words after what was read as edge j
unfoldable pub edge_stored : Size → ℕ → ℕ → List ℕ → EdgeRead → List ℕ
edge_stored z before j w (Ok (e, c)) = with_edge z before j e w
edge_stored z before j w (Err e) = w

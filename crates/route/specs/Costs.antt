-- Costs of edges and walks as the trace finds, adds and bounds them: for contracts of private functions alone, nothing that a reader must believe.
use Rattle.std.specs.Prelude.{ℕ, ◌+◌, ◌*◌, ◌≤◌, ◌≡◌, List, Some, None}
use Rattle.graph.specs.declared.Edge.{Edge}
use Rattle.search.specs.Walk.{RouteCost, edge_cost}
use Rattle.route.specs.declared.trace.Traced.{Traced}

-- the first cost that is found
unfoldable pub or_else : RouteCost → RouteCost → RouteCost
or_else None y = y
or_else (Some c) y = Some c

-- the cost of an edge and of a walk after it
unfoldable pub plus : RouteCost → RouteCost → RouteCost
plus None y = None
plus (Some c) None = None
plus (Some c) (Some n) = Some (c + n)

-- one vertex before those that are traced
unfoldable pub extended : List Edge → ℕ → Traced → Traced
extended edges x t = record { first = x; length = t.length + 1; cost = plus (edge_cost edges x t.first) t.cost }

-- ---- bounds

-- the largest word
abbrev pub max_word : ℕ
max_word = 4294967295

-- a cost within a bound
pub record AtMost (n : ℕ) (c : RouteCost) : Type 0 where
  pub most : (k : ℕ) → c ≡ Some k → k ≤ n

-- a cost of at most a word for each vertex
abbrev pub Payable : Traced → Type 0
Payable t = AtMost (max_word * t.length) t.cost

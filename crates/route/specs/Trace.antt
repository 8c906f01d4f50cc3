-- The trace of predecessors from the goal, as work memory has it, and its figures: for contracts inside the planner call, nothing that a reader must believe.
use Rattle.std.specs.Prelude.{ℕ, List, [], length, get_or}
use Rattle.graph.specs.declared.Edge.{Edge}
use Rattle.search.specs.Walk.{RouteCost, route_cost}
use Rattle.search.specs.Rounds.{trace}
use Rattle.graph.specs.declared.Size.{Size}
use Rattle.workspace.specs.Layout.{pred_of, graph_of}
use Rattle.route.specs.declared.trace.Traced.{Traced}

-- predecessors traced from the goal, as work memory has them
unfoldable pub traced_in : Size → List ℕ → ℕ → ℕ → List ℕ
traced_in z w start goal = trace (pred_of z w) start z.vertices goal []

-- broken, or their cost
unfoldable pub traced_cost : Size → List ℕ → ℕ → ℕ → RouteCost
traced_cost z w start goal = route_cost (graph_of z w) (traced_in z w start goal)

-- vertices by their figures: the first one, their number, and what they are
unfoldable pub measured : List Edge → List ℕ → Traced
measured edges r = record { first = get_or r 0 0; length = length r; cost = route_cost edges r }

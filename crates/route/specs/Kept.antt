-- What a finished round does to the incumbent (the kept route) and to route memory: for contracts inside the planner call, nothing that a reader must believe.
use Rattle.std.specs.Prelude.{ℕ, cond, List, [], ◌∷◌, eqb}
use Rattle.graph.specs.Lists.{over}
use Rattle.search.specs.declared.Progress.{Progress}
use Rattle.search.specs.Walk.{RouteCost}
use Rattle.search.specs.Job.{route_end}
use Rattle.search.specs.Rounds.{improves, cost_or}
use Rattle.search.specs.Outcome.{route_words}

-- the incumbent's cost after a round whose traced route is c
unfoldable pub kept_cost : RouteCost → Progress → ℕ
kept_cost c p = cond (improves c p) (cost_or 0 c) p.cost

-- route memory after it, where r is the traced route
unfoldable pub kept_route : ℕ → RouteCost → List ℕ → Progress → List ℕ → List ℕ
kept_route v c r p old = cond (improves c p) (over (route_words v r) old) old

-- a route in memory ends before its first 4,294,967,295, or with its slice
unfoldable pub up_to_end : List ℕ → List ℕ
up_to_end [] = []
up_to_end (x ∷ r) = cond (eqb x route_end) [] (x ∷ up_to_end r)

-- A watch over the edges of a plan: for contracts of code that reads them, nothing that a reader must believe.
use Rattle.std.specs.Prelude.{ℕ, suc, List, [], ◌∷◌, Result, Ok, Err}
use Rattle.graph.specs.declared.Edge.{Edge}
use Rattle.graph.specs.declared.refusal.Refusal.{Refusal}
use Rattle.graph.specs.Refusal.{refusal_of}
use Rattle.graph.specs.Plan.{Decoded, accepted, refused}

-- what a watch is after edges, of which the first has number i
unfoldable pub after : {W : Type 0} → (W → ℕ → Edge → W) → W → ℕ → List Edge → W
after seen w i [] = w
after seen w i (e ∷ es) = after seen (seen w i e) (suc i) es

-- after all edges that were read, from number i on; or the plan's first refusal
unfoldable pub watched : {W : Type 0} → (W → ℕ → Edge → W) → W → ℕ → Decoded → Result W Refusal
watched seen w i (accepted v es) = Ok (after seen w i es)
watched seen w i (refused n p) = Err (refusal_of n p)

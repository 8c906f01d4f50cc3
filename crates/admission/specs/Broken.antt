-- The first edge that breaks the anchor rule, found on the way through a plan: for contracts of inner functions, nothing that a reader must believe.
use Rattle.std.specs.Prelude.{ℕ, suc, ◌+◌, Bool, cond, ◌&&◌, List, [], ◌∷◌, get_or, ltb, Result, Ok, Err}
use Rattle.graph.specs.declared.Edge.{Edge}
use Rattle.graph.specs.declared.refusal.Refusal.{Refusal}
use Rattle.graph.specs.Refusal.{refusal_of}
use Rattle.graph.specs.Plan.{Decoded, accepted, refused}
use Rattle.admission.specs.declared.edges.FirstBroken.{FirstBroken}

-- an edge breaks the rule under the anchor heuristic h, which counts as 0 past its end
unfoldable pub breaks : List ℕ → Edge → Bool
breaks h e = ltb (e.cost + get_or h e.head 0) (get_or h e.tail 0)

-- the number of the first edge that breaks the rule, from edge number i on; past the last where none does
unfoldable pub first_broken : List ℕ → ℕ → List Edge → ℕ
first_broken h i [] = i
first_broken h i (e ∷ es) = cond (breaks h e) i (first_broken h (suc i) es)

-- b is the first of the edges before i that breaks the rule, or M; the same with edge i, e, too
unfoldable pub broken_after : List ℕ → ℕ → ℕ → Edge → ℕ
broken_after h b i e = cond (breaks h e && ltb i b) i b

-- what the watch for the rule is when it has seen edge i, e, too
unfoldable pub seen : FirstBroken → ℕ → Edge → FirstBroken
seen w i e = record { anchor = w.anchor; broken = broken_after w.anchor.now w.broken i e }

-- the number of the first edge that breaks the rule, M where none does; or the plan's first refusal
abbrev pub EdgesRead : Type 0
EdgesRead = Result ℕ Refusal

-- all edges read: the first that breaks the rule, M where none does; or the plan's first refusal
unfoldable pub edges_read : List ℕ → Decoded → EdgesRead
edges_read h (accepted v es) = Ok (first_broken h 0 es)
edges_read h (refused n p) = Err (refusal_of n p)

-- A planner call for other languages: its answer as eight figures, in the order of document 01's figures; unused ones are 0.
use Rattle.std.specs.Prelude.{ℕ, ◌≡◌, List, [], ◌∷◌, Result}
use Rattle.graph.specs.declared.refusal.Refusal.{Refusal}
use Rattle.ffi_planner.specs.declared.Figures.{Figures as Shown}
use Rattle.search.specs.declared.Answer.{Answer}
use Rattle.search.specs.Call.{Memory, Call}
use Rattle.search.specs.Outcome.{Ending, route, no_route, unfinished, refused, Figures, figures, answer}
use Rattle.planner.specs.Plan.{Planned}

-- 0 a route, 1 no route, 2 unfinished, 3 refused
unfoldable pub ending_number : Ending → ℕ
ending_number route = 0
ending_number no_route = 1
ending_number unfinished = 2
ending_number refused = 3

-- the ending, a refusal's number and position, then cost, length, rounds, turns and bound
unfoldable pub eight : Figures → List ℕ
eight f =
    ending_number f.ending
    ∷ f.number
    ∷ f.position
    ∷ f.cost
    ∷ f.length
    ∷ f.rounds
    ∷ f.turns
    ∷ f.bound
    ∷ []

unfoldable pub answer_figures : Result Answer Refusal → List ℕ
answer_figures a = eight (figures a)

-- the figures of an answer or a refusal
abbrev pub Shows : Result Answer Refusal → Shown → Type 0
Shows a f = f.0 ≡ answer_figures a

-- the figures handed over, and m is lent memory then: the planner call's own promise
pub record Exported (c : Call) (figs : List ℕ) (m : Memory) : Type 0 where
  pub figures_are : figs ≡ answer_figures (answer c)
  pub planned : Planned c (answer c) m

-- An explanation for other languages: its answer as ten figures, and both lists.
use Rattle.std.specs.Prelude.{ℕ, ◌≡◌, List, [], ◌∷◌, ◌++◌}
use Rattle.graph.specs.declared.refusal.Refusal.{Refusal}
use Rattle.search.specs.declared.Explanation.{Explanation}
use Rattle.ffi_planner.specs.declared.explanations.ReasonFigures.{ReasonFigures}
use Rattle.search.specs.Call.{Memory}
use Rattle.search.specs.Reason.{Inquiry, explanation}
use Rattle.explanation.specs.Explained.{Explained}
use Rattle.ffi_planner.specs.Calls.{answer_figures}

-- the eight of the call's answer, then how many vertices (places) and edges (lanes) are listed
unfoldable pub explanation_figures : Explanation Refusal → List ℕ
explanation_figures e = answer_figures e.answer ++ (e.vertices ∷ e.edges ∷ [])

-- the figures of an explanation
abbrev pub ShowsReason : Explanation Refusal → ReasonFigures → Type 0
ShowsReason e f = f.0 ≡ explanation_figures e

-- the figures handed over; m is the call's memory then, and these are the lists: the explanation's own promise
pub record ExportedReason (x : Inquiry) (figs : List ℕ) (m : Memory) (vertices edges : List ℕ) : Type 0 where
  pub figures_are : figs ≡ explanation_figures (explanation x)
  pub explained : Explained x (explanation x) m vertices edges

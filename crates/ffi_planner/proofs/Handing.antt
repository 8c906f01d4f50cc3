-- What is handed to other languages is the outcome of the planner call, of an explanation, and of loading a sheet.
use mathlib.Core.Path.{◌≡◌, refl, sym, subst, ap, ◌∙◌}
use mathlib.Core.Bool.{false}
use mathlib.Core.List.{List}
use Prim.Native.Nat.{ℕ}
use Rattle.std.specs.Prelude.{Result, Err, is_ok}
use Rattle.graph.specs.declared.refusal.Refusal.{Refusal}
use Rattle.search.specs.declared.Answer.{Answer}
use Rattle.search.specs.declared.Explanation.{Explanation}
use Rattle.search.specs.Call.{Memory, Call}
use Rattle.search.specs.Reason.{Inquiry}
use Rattle.schedule.specs.declared.default_schedule.DefaultSchedule.{DefaultSchedule}
use Rattle.schedule.specs.DefaultSchedule.{loading}
use Rattle.schedule.proofs.DefaultSchedule.{loads}
use Rattle.planner.specs.Plan.{Planned}
use Rattle.ffi_planner.specs.Calls.{answer_figures, Exported}
use Rattle.explanation.specs.Explained.{Explained}
use Rattle.ffi_planner.specs.Explanations.{explanation_figures, ExportedReason}
use Rattle.ffi_planner.specs.House.{LoadedTo}

pub exported :
    (c : Call) (a : Result Answer Refusal) (figs : List ℕ) (m : Memory) → figs ≡ answer_figures a → Planned c a m → Exported c figs m
exported c a figs m e p =
    record {
      figures_are = e ∙ ap answer_figures p.answers;
      planned = subst (λ (x : Result Answer Refusal). Planned c x m) p.answers p;
    }

pub exported_reason :
    (x : Inquiry) (e : Explanation Refusal) (figs : List ℕ) (m : Memory) (vertices edges : List ℕ) → figs ≡ explanation_figures e →
    Explained x e m vertices edges → ExportedReason x figs m vertices edges
exported_reason x e figs m vertices edges q y =
    record {
      figures_are = q ∙ ap explanation_figures y.answers;
      explained = subst (λ (u : Explanation Refusal). Explained x u m vertices edges) y.answers y;
    }

-- a sheet is rejected: refusal 10, and nothing is written
pub rejected_to :
    (house : DefaultSchedule) (sheet : List ℕ) (given : Result DefaultSchedule DefaultSchedule) → given ≡ loading house sheet →
    (kept : DefaultSchedule) → given ≡ Err kept → LoadedTo (loading house sheet) 10 house
rejected_to house sheet given e kept a =
    let n : is_ok (loading house sheet) ≡ false = ap is_ok (sym e ∙ a) in
    record { number_is = rw n refl; house_is = sym (loads.kept house sheet n) }

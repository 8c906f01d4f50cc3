-- What is carried, asked and reached, where the same memories are lent on.
use mathlib.Core.Path.{◌≡◌, refl, sym, ap, ◌∙◌, subst}
use mathlib.Core.List.{List}
use Prim.Native.Nat.{ℕ}
use Rattle.search.specs.Call.{Memory, Call}
use Rattle.graph.specs.declared.Size.{Size}
use Rattle.workspace.specs.declared.Workspace.{Workspace}
use Rattle.workspace.specs.Space.{LentFor}
use Rattle.admission.specs.declared.Call.{Call as Asked}
use Rattle.planner.specs.Plan.{memory_of}
use Rattle.planner.specs.Carried.{Asking}
use Rattle.planner.specs.Reached.{Given}

-- a workspace is lent its own memories, and theirs to those after it
pub lent_same : (s : Workspace) → LentFor s.size s.work s.wide s
lent_same s = record { size_is = refl; work_is = refl; wide_is = refl }

pub lent_then : (s s' s'' : Workspace) → LentFor s.size s.work s.wide s' → LentFor s'.size s'.work s'.wide s'' → LentFor s.size s.work s.wide s''
lent_then s s' s'' e f =
    record { size_is = f.size_is ∙ e.size_is; work_is = f.work_is ∙ e.work_is; wide_is = f.wide_is ∙ e.wide_is }

module _ (c : Call) (q : Asked) (s s' : Workspace) (e : LentFor s.size s.work s.wide s') where
  pub asking_then : Asking c s.size q → Asking c s'.size q
  asking_then a = subst (λ (z : Size). Asking c z q) (sym e.size_is) a

  pub given_then : Given c q s → Given c q s'
  given_then g = record { asking = asking_then g.asking; sheets_is = g.sheets_is }

-- memory is the same where its parts are
pub same_memory : {m m' : Memory} → m.route ≡ m'.route → m.log ≡ m'.log → m.work ≡ m'.work → m.wide ≡ m'.wide → m ≡ m'
same_memory {m} {m'} e f g h =
    ap (λ (x : List ℕ). memory_of x m.log m.work m.wide) e
    ∙ ap (λ (x : List ℕ). memory_of m'.route x m.work m.wide) f
    ∙ ap (λ (x : List ℕ). memory_of m'.route m'.log x m.wide) g
    ∙ ap (λ (x : List ℕ). memory_of m'.route m'.log m'.work x) h

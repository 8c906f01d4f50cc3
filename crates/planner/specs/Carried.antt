-- The search in hand, as code and lent memory carry it: for the contracts of the stages of a planner call, nothing that a reader must believe.
use Rattle.std.specs.Prelude.{ℕ, ◌-◌, ◌≤◌, ◌<◌, ◌≡◌, List, length}
use Rattle.graph.specs.Lists.{none}
use Rattle.search.specs.declared.Progress.{Progress}
use Rattle.search.specs.declared.Step.TheVariants.{Finished}
use Rattle.search.specs.Bounds.{DueWithin}
use Rattle.search.specs.Job.{State}
use Rattle.search.specs.Rounds.{Stand, step, end_round, settle}
use Rattle.search.specs.Call.{Memory, Call, schedule_of, fault_of, plan_edges, job_of}
use Rattle.search.specs.Outcome.{route_after}
use Rattle.search.proofs.Standing.{Ok}
use Rattle.admission.specs.declared.Call.{Call as Asked}
use Rattle.admission.specs.Admission.{taken}
use Rattle.graph.specs.declared.Size.{Size}
use Rattle.workspace.specs.declared.Workspace.{Workspace}
use Rattle.workspace.specs.Layout.{Words, mem}
use Rattle.workspace.specs.Holds.{Holds}
use Rattle.workspace.specs.Space.{space_words, LentFor}
use Rattle.planner.specs.declared.Standing.{Standing}

-- a call that is not refused, whose plan is of this size
pub record Fits (c : Call) (z : Size) : Type 0 where
  pub admitted : fault_of c ≡ none
  pub vertices : z.vertices ≡ (job_of c).size
  pub edges : z.edges ≡ length (plan_edges c)

-- it, as the code has it (whatever the guide sheets and the budget are)
pub record Asking (c : Call) (z : Size) (q : Asked) : Type 0 where
  pub fits : Fits c z
  pub start : q.start ≡ c.start
  pub goal : q.goal ≡ c.goal
  pub barred : q.barred ≡ c.barred
  pub guides : q.guide_count ≡ c.count
  pub anchor_is : q.anchor.now ≡ c.anchor
  pub schedule_is : taken q ≡ schedule_of c

-- the part of lent memory in which vertices lie
abbrev pub words_of : Memory → Words
words_of m = mem m.work m.wide

-- the state s, in the record p, in both work memories and in route memory
pub record Carries (c : Call) (z : Size) (s : State) (p : Progress) (m : Words) (route : List ℕ) : Type 0 where
  pub ok : Ok (job_of c) s
  pub words : Holds z (plan_edges c) s.vertices (words_of c.memory) m
  pub kept : route ≡ route_after (job_of c) s c.memory.route
  pub progress : p ≡ s.progress
  pub turn : p.turn ≤ c.count

-- where the search stands
pub record Stands (c : Call) (z : Size) (y : Stand) (r : Standing) (m : Words) (route : List ℕ) : Type 0 where
  pub step : r.step ≡ y.step
  pub due : DueWithin z.vertices r.step
  pub carries : Carries c z y.state r.progress m route

-- the same of a workspace
abbrev pub CarriesIn : Call → State → Progress → Workspace → List ℕ → Type 0
CarriesIn c s p space route = Carries c space.size s p (space_words space) route

abbrev pub StandsIn : Call → Stand → Standing → Workspace → List ℕ → Type 0
StandsIn c y r space route = Stands c space.size y r (space_words space) route

-- ---- a round's end, where `left` rounds were not finished

abbrev pub rounds_left : Call → State → ℕ
rounds_left c s = length (job_of c).schedule - s.progress.rounds

-- what it asks
pub record RoundOver (q : Asked) (space : Workspace) (route : List ℕ) (left : ℕ) (p : Progress) : Type 0 where
  pub call : Call
  pub state : State
  pub asking : Asking call space.size q
  pub carries : CarriesIn call state p space route
  pub left_is : left ≡ rounds_left call state
  pub more : state.progress.rounds < length (job_of call).schedule
  pub finished : step (job_of call) state ≡ Finished

-- what it does, whatever the call and the state are
pub record RoundEnds (q : Asked) (space : Workspace) (route : List ℕ) (left : ℕ) (p : Progress) (r : Progress) (space' : Workspace) (route' : List ℕ) : Type 0 where
  pub lent : LentFor space.size space.work space.wide space'
  pub ends :
      (c : Call) (s : State) → Asking c space.size q → CarriesIn c s p space route → left ≡ rounds_left c s →
      s.progress.rounds < length (job_of c).schedule → step (job_of c) s ≡ Finished → CarriesIn c (end_round (job_of c) s) r space' route'

-- ---- step 1, again and again

pub record Settling (q : Asked) (space : Workspace) (route : List ℕ) (left : ℕ) (p : Progress) : Type 0 where
  pub call : Call
  pub state : State
  pub asking : Asking call space.size q
  pub carries : CarriesIn call state p space route
  pub left_is : left ≡ rounds_left call state

pub record Settles (q : Asked) (space : Workspace) (route : List ℕ) (left : ℕ) (p : Progress) (r : Standing) (space' : Workspace) (route' : List ℕ) : Type 0 where
  pub lent : LentFor space.size space.work space.wide space'
  pub settles :
      (c : Call) (s : State) → Asking c space.size q → CarriesIn c s p space route → left ≡ rounds_left c s →
      StandsIn c (settle (job_of c) left s) r space' route'

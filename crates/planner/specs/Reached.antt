-- The search between two turns, as code and lent memory carry it: for the contracts of the stages of a planner call, nothing that a reader must believe.
use Rattle.std.specs.Prelude.{ℕ, ◌<◌, ◌≡◌, List, [], ◌++◌, length}
use Rattle.search.specs.Rounds.{Stand, Moment, begin, advance, run, moments}
use Rattle.search.specs.Call.{Call, job_of}
use Rattle.search.specs.Outcome.{log_after}
use Rattle.search.proofs.Standing.{Good}
use Rattle.admission.specs.declared.Call.{Call as Asked}
use Rattle.workspace.specs.declared.Workspace.{Workspace}
use Rattle.workspace.specs.Space.{LentFor}
use Rattle.planner.specs.declared.Standing.{Standing}
use Rattle.planner.specs.Carried.{Asking, StandsIn}

-- ---- between two turns

-- the search stands at y after the turns ts, in memory and in the code's record
pub record Reaches (c : Call) (y : Stand) (ts : List Moment) (r : Standing) (space : Workspace) (route log : List ℕ) : Type 0 where
  pub stands : StandsIn c y r space route
  pub good : Good (job_of c) y
  pub logged : log ≡ log_after ts c.memory.log
  pub turns : r.progress.expansions ≡ length ts

-- ---- a turn, and step 1 after it

-- a call whose guide sheets are those of the code's, too
pub record Given (c : Call) (q : Asked) (space : Workspace) : Type 0 where
  pub asking : Asking c space.size q
  pub sheets_is : q.guides.now ≡ c.sheets

pub record Advancing (q : Asked) (space : Workspace) (route log : List ℕ) (s : Standing) : Type 0 where
  pub call : Call
  pub stand : Stand
  pub turns : List Moment
  pub given : Given call q space
  pub reaches : Reaches call stand turns s space route log
  pub more : s.progress.expansions < 4294967295

pub record Advances (q : Asked) (space : Workspace) (route log : List ℕ) (s r : Standing) (space' : Workspace) (route' log' : List ℕ) : Type 0 where
  pub lent : LentFor space.size space.work space.wide space'
  pub advances :
      (c : Call) (y : Stand) (ts : List Moment) → Given c q space → Reaches c y ts s space route log →
      Reaches c (advance (job_of c) y) (ts ++ moments (job_of c) 1 y) r space' route' log'

-- ---- the turns

pub record Running (q : Asked) (space : Workspace) (route log : List ℕ) (s : Standing) : Type 0 where
  pub call : Call
  pub given : Given call q space
  pub reaches : Reaches call (begin (job_of call)) [] s space route log

-- n turns, or as many as there are
pub record Runs (q : Asked) (space : Workspace) (route log : List ℕ) (n : ℕ) (s r : Standing) (space' : Workspace) (route' log' : List ℕ) : Type 0 where
  pub lent : LentFor space.size space.work space.wide space'
  pub runs :
      (c : Call) → Given c q space → Reaches c (begin (job_of c)) [] s space route log →
      Reaches c (run (job_of c) n (begin (job_of c))) (moments (job_of c) n (begin (job_of c))) r space' route' log'

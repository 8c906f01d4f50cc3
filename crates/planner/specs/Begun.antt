-- The search at first, from lent memory on: for the contract of a stage of the planner call, nothing that a reader must believe.
use Rattle.std.specs.Prelude.{ℕ, ◌≡◌, List, Ok}
use Rattle.graph.specs.Refusal.{size_of}
use Rattle.graph.specs.Plan.{header}
use Rattle.search.specs.Rounds.{begin}
use Rattle.search.specs.Call.{Call, job_of}
use Rattle.admission.specs.declared.Call.{Call as Asked}
use Rattle.graph.specs.declared.Size.{Size}
use Rattle.workspace.specs.Layout.{Words}
use Rattle.planner.specs.declared.Standing.{Standing}
use Rattle.planner.specs.Carried.{Asking, words_of, Stands}

-- the call as the code has it before anything is written, where the plan's first edge stands at the offset `at` (whatever the log holds)
pub record Called (c : Call) (q : Asked) (z : Size) (at : ℕ) (m : Words) (route : List ℕ) : Type 0 where
  pub asking : Asking c z q
  pub bytes_is : q.bytes.now ≡ c.bytes
  pub words_are : m ≡ words_of c.memory
  pub route_is : route ≡ c.memory.route
  pub header_is : header c.bytes ≡ Ok (size_of z.vertices z.edges, at)

-- what it asks
pub record Beginning (q : Asked) (z : Size) (at : ℕ) (m : Words) (route : List ℕ) : Type 0 where
  pub call : Call
  pub called : Called call q z at m route

-- what it does, whatever the call is
pub record Begins (q : Asked) (z : Size) (at : ℕ) (m : Words) (route : List ℕ) (r : Standing) (m' : Words) (route' : List ℕ) : Type 0 where
  pub begins : (c : Call) → Called c q z at m route → Stands c z (begin (job_of c)) r m' route'

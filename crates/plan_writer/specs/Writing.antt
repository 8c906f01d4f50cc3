-- A plan measured and laid: for contracts of private functions alone, nothing that a reader must believe.
use Rattle.std.specs.Prelude.{ℕ, ◌+◌, ◌^◌, ◌≤◌, ◌<◌, ◌≡◌, Bool, ◌&&◌, ◌||◌, List, [], ◌∷◌, length, ltb, eqb, Result, Ok, Err}
use Rattle.leb128.specs.Number.{plan_groups}
use Rattle.graph.specs.declared.Edge.{Edge}
use Rattle.graph.specs.declared.Cursor.{Cursor}
use Rattle.graph.specs.declared.refusal.Cause.{Cause}
use Rattle.graph.specs.Refusal.{PlanWritten, refusal_of}
use Rattle.graph.specs.Rows.{through}
use Rattle.graph.specs.Limits.{max_class}
use Rattle.graph.specs.Plan.{past}
use Rattle.graph.specs.Lists.{Fault as Found, none, fault, edge_rows, edges_fault, edge_bytes, edges_bytes, bytes_of}

-- four equal lists
pub record Equal (ts hs cs ks : List ℕ) : Type 0 where
  pub heads : length hs ≡ length ts
  pub costs : length cs ≡ length ts
  pub classes : length ks ≡ length ts

-- row 6 of an edge after a cursor
unfoldable pub falls : Cursor → Edge → Bool
falls c e = ltb e.tail c.tail || (eqb e.tail c.tail && ltb e.head c.least)

-- an edge through its rows, and the cursor past its bytes; or the cause of the first that refuses it
unfoldable pub edge_measured : ℕ → Cursor → Edge → Result Cursor Cause
edge_measured v c e = through (edge_rows v c.tail c.least e) (λ n. Err n) (Ok (past e (c.at + length (edge_bytes c.tail e))))

-- a refusal, or else the count of bytes
unfoldable pub measured : Found → ℕ → PlanWritten
measured (fault n p) count = Err (refusal_of n p)
measured none count = Ok count

-- the edges from number i on through their rows, and the count of bytes, where the cursor stands before them
unfoldable pub edges_measured : ℕ → Cursor → ℕ → List Edge → PlanWritten
edges_measured v c i es = measured (edges_fault v c.tail c.least i es) (c.at + length (edges_bytes c.tail es))

-- all edges of a plan through their rows, and the count of the plan's bytes
unfoldable pub plan_measured : ℕ → List Edge → PlanWritten
plan_measured v es = measured (edges_fault v 0 0 0 es) (length (bytes_of v es))

-- an edge that may be laid after one with this tail: its tail does not fall, and each of its numbers has a form
pub record LayableEdge (last : ℕ) (e : Edge) : Type 0 where
  pub rises : last ≤ e.tail
  pub tail : e.tail < 128 ^ plan_groups
  pub head : e.head < 128 ^ plan_groups
  pub cost : e.cost < 128 ^ plan_groups
  pub class : e.class ≤ max_class

abbrev pub Layable : ℕ → List Edge → Type 0
Layable last [] = Unit {0}
Layable last (e ∷ es) = LayableEdge last e × Layable e.tail es

-- what may be laid, and has room at the offset: an edge, all edges, the whole plan
pub record EdgeFits (out : List ℕ) (at last : ℕ) (e : Edge) : Type 0 where
  pub layable : LayableEdge last e
  pub room : at + length (edge_bytes last e) ≤ length out

pub record EdgesFit (out : List ℕ) (start : ℕ) (es : List Edge) : Type 0 where
  pub layable : Layable 0 es
  pub room : start + length (edges_bytes 0 es) ≤ length out

pub record PlanFits (out : List ℕ) (v : ℕ) (es : List Edge) : Type 0 where
  pub passes : edges_fault v 0 0 0 es ≡ none
  pub room : length (bytes_of v es) ≤ length out

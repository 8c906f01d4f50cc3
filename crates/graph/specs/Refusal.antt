-- Refusals, and what reading and writing of plans give where nothing is refused.
use Rattle.std.specs.Prelude.{ℕ, ◌≡◌, Result}
use Rattle.leb128.specs.declared.Malformed.{Malformed}
use Rattle.graph.specs.declared.Size.{Size}
use Rattle.graph.specs.declared.Edge.{Edge}
use Rattle.graph.specs.declared.Cursor.{Cursor}
use Rattle.graph.specs.declared.refusal.Cause.{Cause}
use Rattle.graph.specs.declared.refusal.Cause.TheVariants as cause
use Rattle.graph.specs.declared.refusal.Refusal.{Refusal}

-- the number of a cause in document 01's table of refusals (15: document 02, E1)
unfoldable pub number_of : Cause → ℕ
number_of cause.Number = 1
number_of cause.VertexCount = 2
number_of cause.EdgeCount = 3
number_of cause.Vertex = 4
number_of cause.Cost = 5
number_of cause.Order = 6
number_of cause.LeftOver = 7
number_of cause.Ends = 8
number_of cause.Tables = 9
number_of cause.Schedule = 10
number_of cause.Memory = 11
number_of cause.Goal = 12
number_of cause.AnchorRule = 13
number_of cause.Job = 14
number_of cause.Class = 15

-- a refusal: its cause and its position
abbrev pub refusal_of : Cause → ℕ → Refusal
refusal_of c p = record { cause = c; at = p }

-- what is no number is refused with 1 at its first byte
abbrev pub NotANumber : Malformed → Refusal → Type 0
NotANumber e r = r ≡ refusal_of cause.Number e.at

-- V and M
abbrev pub size_of : ℕ → ℕ → Size
size_of v m = record { vertices = v; edges = m }

-- ---- what is given, or the refusal

-- a plan number that passed all its rows, with the offset past it
abbrev pub Taken : Type 0
Taken = Result (ℕ × ℕ) Refusal

-- the next edge, and the cursor past it
abbrev pub EdgeRead : Type 0
EdgeRead = Result (Edge × Cursor) Refusal

-- V and M, and the offset of the first edge
abbrev pub Header : Type 0
Header = Result (Size × ℕ) Refusal

-- V and M of a whole plan
abbrev pub PlanRead : Type 0
PlanRead = Result Size Refusal

-- the count of the bytes that are written
abbrev pub PlanWritten : Type 0
PlanWritten = Result ℕ Refusal

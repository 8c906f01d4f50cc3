-- What is decided of a call by its first fault: for contracts of admission, nothing that a reader must believe.
use Rattle.std.specs.Prelude.{ℕ, Ok, Err}
use Rattle.graph.specs.Lists.{Fault, none, fault}
use Rattle.graph.specs.Refusal.{Header, refusal_of, size_of}

-- V and M of the plan and the offset of its first edge, or the refusal
abbrev pub Verdict : Type 0
Verdict = Header

-- a call is turned down where it has a fault; else it is admitted, with V and M of its plan and the offset of the first edge
unfoldable pub verdict : ℕ → ℕ → ℕ → Fault → Verdict
verdict v m at none = Ok (size_of v m, at)
verdict v m at (fault n p) = Err (refusal_of n p)

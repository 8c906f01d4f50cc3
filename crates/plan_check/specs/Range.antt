-- The rows of a plan number that has a range: for the contract of one private function, nothing that a reader must believe.
use Rattle.std.specs.Prelude.{ℕ, List, [], ◌∷◌, ltb, leb}
use Rattle.graph.specs.declared.refusal.Cause.{Cause}
use Rattle.graph.specs.Rows.{Row, row}

-- `above` where it is the limit or more, then `below` where it is under the least
unfoldable pub range_rows : ℕ → Cause → ℕ → Cause → ℕ → List Row
range_rows limit above least below x = row (leb limit x) above ∷ row (ltb x least) below ∷ []

-- The best of a scan as the code holds it: nothing that a reader must believe.
use Rattle.std.specs.Prelude.{ℕ, cond, eqb, Some, None}
use Rattle.search.specs.Turn.{Best}
use Rattle.turn.specs.declared.scan.Lead.{Lead}

-- above all keys
abbrev pub no_key : ℕ
no_key = 18446744073709551615

unfoldable pub best_of : Lead → Best
best_of l = cond (eqb l.key no_key) None (Some (l.key, l.vertex))

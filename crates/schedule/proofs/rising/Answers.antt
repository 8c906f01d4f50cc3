-- `rising` meets its contract: each number is beside the second after it.
use mathlib.Core.Path.{◌∙◌}
use Prim.Native.Nat.{ℕ}
use Rattle.std.proofs.Common.{ltb, rules, tests}
use Rattle.std.proofs.lemmas.Iterator.{YieldsList-from_slice, YieldsList-from_zip}
use Rattle.std.proofs.lemmas.Iterator.Adapters.{YieldsList-from_skip}
use Rattle.std.proofs.lemmas.Iterator.Search.{any_from_yields_List}
use Rattle.schedule.proofs.Taken.{rising_pairs}
use Rattle.schedule.proofs.rising.Goals as goal

pub returns : goal.returns
returns c =
    let ws = c.args.schedule.now in
    any_from_yields_List (λ (p : ℕ × ℕ). ltb p.0 p.1) c.any.new.self _ _ c.any.ensures.ran
    (YieldsList-from_zip (YieldsList-from_slice ws cc) (YieldsList-from_skip 2 (YieldsList-from_slice ws cc) cc))
    (λ x b q k. search (rules, tests))
    ∙ rising_pairs ws

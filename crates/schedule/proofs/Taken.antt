-- Laws of the schedule that a call takes: which one it is, row 10, its rounds and their factors.
use Prim.Native.Nat.{ℕ, zero, suc, ◌+◌, ◌*◌, ◌/◌, ◌<◌}
use native.Mathlib.Omega.{arith}
use mathlib.Core.Path.{◌≡◌, refl, sym, ap, ◌∙◌}
use mathlib.Core.Bool.{Bool, true, false, true≢false, ◌||◌}
use mathlib.Core.List.{List, [], ◌∷◌}
use lib.ListN.{length, get_or, drop}
use lib.Dec.{ltb, eqb}
use borrow.Author.Tests.{ne_eqb}
use Rattle.std.specs.List.{list_any, zip}
use Rattle.search.specs.declared.Factors.{Factors}
use Rattle.search.specs.Call.{or_default, rising, pairs}

-- ---- which schedule it is

pub default_there : (default ws : List ℕ) → true ≡ eqb (length ws) 0 → default ≡ or_default default ws
unfolding or_default
default_there default [] h = refl
default_there default (w ∷ ws) h = absurd (true≢false (h ∙ ne_eqb (length (w ∷ ws)) 0 (λ (e : length (w ∷ ws) ≡ 0). omega arith)))

pub given_there : (default ws : List ℕ) → false ≡ eqb (length ws) 0 → ws ≡ or_default default ws
unfolding or_default
given_there default [] h = absurd (true≢false (sym h))
given_there default (w ∷ ws) h = refl

-- ---- row 10: each number beside the second after it

pub rising_pairs : (ws : List ℕ) → list_any (λ (p : ℕ × ℕ). ltb p.0 p.1) (zip ws (drop 2 ws)) ≡ rising ws
unfolding rising
rising_pairs [] = refl
rising_pairs (u ∷ []) = refl
rising_pairs (u ∷ v ∷ []) = refl
rising_pairs (u ∷ v ∷ w ∷ ws) = ap (λ (b : Bool). ltb u w || b) (rising_pairs (v ∷ w ∷ ws))

-- ---- the rounds

pub pairs_length : (ws : List ℕ) → length (pairs ws) ≡ length ws / 2
unfolding pairs
pairs_length [] = refl
pairs_length (u ∷ []) = refl
pairs_length (u ∷ v ∷ ws) = omega (arith, pairs_length ws)

-- both factors of a round are numbers of the schedule
pub pairs_within : (ws : List ℕ) (r : ℕ) → r < length (pairs ws) → r * 2 + 1 < length ws
pairs_within ws r h = omega (arith, pairs_length ws)

pub pairs_at :
    (ws : List ℕ) (r : ℕ) (d : Factors) → r < length (pairs ws) →
    record { w1 = get_or ws (r * 2) 0; w2 = get_or ws (r * 2 + 1) 0 } ≡ get_or (pairs ws) r d
unfolding pairs
pairs_at [] r d h = absurd (omega arith)
pairs_at (u ∷ []) r d h = absurd (omega arith)
pairs_at (u ∷ v ∷ ws) zero d h = refl
pairs_at (u ∷ v ∷ ws) (suc r) d h =
    let a : suc r * 2 ≡ suc (suc (r * 2)) = omega arith in
    let b : suc r * 2 + 1 ≡ suc (suc (r * 2 + 1)) = omega arith in
    rw (b, a) (pairs_at ws r d (omega arith))

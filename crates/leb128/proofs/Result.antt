-- Results: what is refused is not given, and what equal ones hold is equal.
use Rattle.std.specs.Prelude.{ℕ, ◌≡◌, Result, Ok, Err}
use Rattle.std.proofs.Common.{arith, ap}

pub err≢ok : {A E : Type 0} {x : A} {e : E} → ◌≡◌ {A = Result A E} (Err e) (Ok x) → ⊥
err≢ok h = let z : ◌≡◌ {A = ℕ} 0 1 = cc in omega arith

pub ok_is : {A E : Type 0} {a x : A} → ◌≡◌ {A = Result A E} (Ok a) (Ok x) → a ≡ x
ok_is h = cc

pub ok_parts : {A B E : Type 0} {a x : A} {b y : B} → ◌≡◌ {A = Result (A × B) E} (Ok (a, b)) (Ok (x, y)) → (a ≡ x) × (b ≡ y)
ok_parts {A = A} {B = B} h = let e = ok_is h in (ap (λ (p : A × B). p.0) e, ap (λ (p : A × B). p.1) e)

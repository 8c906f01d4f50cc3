-- What follows a number or a test: laws for the code that reads on, and of what was read whole.
use Prim.Native.Nat.{ℕ}
use native.Mathlib.Omega.{arith}
use mathlib.Core.Path.{◌≡◌, refl, sym, ap, ◌∙◌}
use mathlib.Core.Bool.{Bool, true, false, cond}
use Rattle.std.specs.Prelude.{Ok, Err, Some, None}
use Rattle.job.specs.Front.{FrontRead, following, past}
use Rattle.job.specs.Numbers.{NumbersRead}
use Rattle.leb128.specs.Number.{NumberRead, malformed_at}
use Rattle.job.specs.declared.Front.{Front}

-- ---- for the code that reads on

module _ (rest : ℕ → ℕ → FrontRead) (r got : NumberRead) (e : got ≡ r) where
  pub follows : (x next : ℕ) (t : FrontRead) → got ≡ Ok (x, next) → t ≡ rest x next → t ≡ following r rest
  unfolding following
  follows x next t f h = h ∙ sym (ap (λ (q : NumberRead). following q rest) (sym e ∙ f))

module _ (rest : ℕ → FrontRead) (r got : NumbersRead) (e : got ≡ r) where
  pub passes : (next : ℕ) (t : FrontRead) → got ≡ Some next → t ≡ rest next → t ≡ past r rest
  unfolding past
  passes next t f h = h ∙ sym (ap (λ (q : NumbersRead). past q rest) (sym e ∙ f))

module _ {A : Type 0} (b : Bool) (x y : A) where
  pub holds : b ≡ true → x ≡ cond b x y
  holds h = rw h

  pub fails : (t : A) → b ≡ false → t ≡ y → t ≡ cond b x y
  fails t h e = rw h e

-- ---- of what was read whole

module _ {A : Type 0} (f : Front) where
  pub whole_following :
      (r : NumberRead) (rest : ℕ → ℕ → FrontRead) → following r rest ≡ Some f →
      ((x next : ℕ) → r ≡ Ok (x, next) → rest x next ≡ Some f → A) → A
  unfolding following
  whole_following (Ok (x, next)) rest h go = go x next refl h
  whole_following (Err e) rest h go = let z : ◌≡◌ {A = ℕ} 0 1 = cc in absurd (omega arith)

  pub whole_past :
      (r : NumbersRead) (rest : ℕ → FrontRead) → past r rest ≡ Some f → ((next : ℕ) → r ≡ Some next → rest next ≡ Some f → A) → A
  unfolding past
  whole_past (Some next) rest h go = go next refl h
  whole_past None rest h go = let z : ◌≡◌ {A = ℕ} 0 1 = cc in absurd (omega arith)

  pub whole_cond : (b : Bool) (y : FrontRead) → cond b None y ≡ Some f → (b ≡ false → y ≡ Some f → A) → A
  whole_cond true y h go = let z : ◌≡◌ {A = ℕ} 0 1 = cc in absurd (omega arith)
  whole_cond false y h go = go refl h

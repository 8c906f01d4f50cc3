-- Laws of memory as numbers are stored one after another.
use Prim.Native.Nat.{ℕ, suc, ◌+◌, ◌-◌, ◌<◌, ◌≤◌}
use native.Mathlib.Numerals.{add-one}
use native.Mathlib.Omega.{arith}
use mathlib.Core.Path.{◌≡◌, refl, sym, ap, ◌∙◌}
use mathlib.Core.List.{List}
use lib.ListN.{length, set, length-set}
use lib.Seq.{sets}
use Rattle.std.specs.Prelude.{Ok, Err}
use Rattle.leb128.specs.declared.Malformed.{Malformed}
use Rattle.leb128.specs.Number.{read, job_groups, NumberRead}
use Rattle.job.specs.Numbers.{value_before, values}
use Rattle.job.proofs.Values.{values_refused}

-- what is to come from here, stored from here on, gives what the whole gives
pub record Storing (s : List ℕ) (count at : ℕ) (old : List ℕ) (i next : ℕ) (now : List ℕ) : Type 0 where
  pub rest : sets old 0 (values count s at) ≡ sets now i (values (count - i) s next)
  pub size : length now ≡ length old
  pub few : i ≤ count

module _ (s : List ℕ) (count at : ℕ) (old : List ℕ) where
  pub storing_none : Storing s count at old 0 at old
  storing_none =
      let z : count ≡ count - 0 = omega arith in
      record { rest = ap (λ (n : ℕ). sets old 0 (values n s at)) z; size = refl; few = omega arith }

  module _ (i next : ℕ) (now : List ℕ) (h : Storing s count at old i next now) where
    pub storing_next : (x m : ℕ) → i < count → read job_groups s next ≡ Ok (x, m) → Storing s count at old (i + 1) m (set now i x)
    unfolding values value_before
    storing_next x m l e =
        let k : count - i ≡ suc (count - suc i) = omega (arith, l) in
        let one = h.rest ∙ ap (λ (n : ℕ). sets now i (values n s next)) k in
        rw (add-one i)
        record {
          rest = one ∙ ap (λ (r : NumberRead). sets now i (value_before (values (count - suc i) s) r)) e;
          size = length-set now i x ∙ h.size;
          few = omega (arith, l);
        }

    pub storing_over : (r : Malformed) → read job_groups s next ≡ Err r → now ≡ sets old 0 (values count s at)
    storing_over r e = sym (h.rest ∙ ap (λ (l : List ℕ). sets now i l) (values_refused (count - i) s next r.at e))

    pub storing_all : count ≤ i → now ≡ sets old 0 (values count s at)
    unfolding values
    storing_all l = let z : count - i ≡ 0 = omega (arith, l) in sym (h.rest ∙ ap (λ (n : ℕ). sets now i (values n s next)) z)

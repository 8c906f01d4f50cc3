-- Laws of the offset past numbers, as they are passed one after another.
use Prim.Native.Nat.{ℕ, ◌+◌, ◌-◌, ◌<◌, ◌≤◌}
use native.Mathlib.Omega.{arith}
use mathlib.Core.Path.{◌≡◌, ap, ◌∙◌}
use mathlib.Core.List.{List}
use Rattle.std.specs.Prelude.{Ok, Err, Some, None}
use Rattle.leb128.specs.declared.Malformed.{Malformed}
use Rattle.leb128.specs.Number.{read, job_groups}
use Rattle.job.specs.Numbers.{end_of}
use Rattle.job.proofs.Values.{end_next, end_refused, end_none}

-- the numbers left after i of them end where all do
pub record Ending (s : List ℕ) (count at i end : ℕ) : Type 0 where
  pub same : end_of count s at ≡ end_of (count - i) s end

module _ (s : List ℕ) (count at : ℕ) where
  pub ending_none : Ending s count at 0 at
  ending_none = let z : count ≡ count - 0 = omega arith in record { same = ap (λ (n : ℕ). end_of n s at) z }

  module _ (i end : ℕ) (h : Ending s count at i end) where
    pub ending_next : (x m : ℕ) → i < count → read job_groups s end ≡ Ok (x, m) → Ending s count at (i + 1) m
    ending_next x m l e =
        let k : count - i - 1 ≡ count - (i + 1) = omega arith in
        record { same = end_next s (end_of count s at) (count - i) end x m (omega (arith, l)) h.same e ∙ ap (λ (n : ℕ). end_of n s m) k }

    pub ending_refused : (r : Malformed) → i < count → read job_groups s end ≡ Err r → None ≡ end_of count s at
    ending_refused r l e = end_refused s (end_of count s at) (count - i) end r.at (omega (arith, l)) h.same e

    pub ending_all : count ≤ i → Some end ≡ end_of count s at
    ending_all l = end_none s (end_of count s at) (count - i) end (omega (arith, l)) h.same

-- Laws of numbers one after another: one number fewer to come, and how many values there are.
use Prim.Native.Nat.{ℕ, zero, suc, ◌-◌, ◌<◌}
use native.Mathlib.Omega.{arith}
use mathlib.Core.Path.{◌≡◌, refl, sym, ap, ◌∙◌}
use mathlib.Core.List.{List, []}
use lib.ListN.{length}
use Rattle.leb128.specs.Number.{read, job_groups, NumberRead, malformed_at}
use Rattle.std.specs.Prelude.{Ok, Err, Some, None}
use Rattle.job.specs.Numbers.{NumbersRead, end_after, end_of, value_before, values}

-- ---- where they end: the numbers left from p on end where all do

module _ (s : List ℕ) (whole : NumbersRead) where
  pub end_next :
      (left p x next : ℕ) → 0 < left → whole ≡ end_of left s p → read job_groups s p ≡ Ok (x, next) → whole ≡ end_of (left - 1) s next
  unfolding end_of end_after
  end_next zero p x next l h e = absurd (omega arith)
  end_next (suc k) p x next l h e =
      let k' : k ≡ suc k - 1 = omega arith in h ∙ ap (end_after (end_of k s)) e ∙ ap (λ (n : ℕ). end_of n s next) k'

  pub end_refused : (left p q : ℕ) → 0 < left → whole ≡ end_of left s p → read job_groups s p ≡ Err (malformed_at q) → None ≡ whole
  unfolding end_of end_after
  end_refused zero p q l h e = absurd (omega arith)
  end_refused (suc k) p q l h e = sym (h ∙ ap (end_after (end_of k s)) e)

  pub end_none : (left p : ℕ) → left ≡ 0 → whole ≡ end_of left s p → Some p ≡ whole
  unfolding end_of
  end_none left p z h = sym (h ∙ ap (λ (n : ℕ). end_of n s p) z)

-- ---- their values

pub values_refused : (n : ℕ) (s : List ℕ) (p q : ℕ) → read job_groups s p ≡ Err (malformed_at q) → values n s p ≡ []
unfolding values value_before
values_refused zero s p q e = refl
values_refused (suc n) s p q e = ap (value_before (values n s)) e

-- there are as many as asked, where none is missing or of bad form
module _ (s : List ℕ) (end : ℕ) where
  length_by :
      (n : ℕ) → ((at : ℕ) → end_of n s at ≡ Some end → length (values n s at) ≡ n) → (r : NumberRead) →
      end_after (end_of n s) r ≡ Some end → length (value_before (values n s) r) ≡ suc n
  unfolding end_after value_before
  length_by n f (Ok (x, next)) h = ap suc (f next h)
  length_by n f (Err e) h = let z : ◌≡◌ {A = ℕ} 0 1 = cc in absurd (omega arith)

  pub length_values : (n at : ℕ) → end_of n s at ≡ Some end → length (values n s at) ≡ n
  unfolding end_of values
  length_values zero at h = refl
  length_values (suc n) at h = length_by n (length_values n) (read job_groups s at) h

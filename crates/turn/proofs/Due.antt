-- Law for the code of step 1: bounds of the key and the vertex that it names.
use Prim.Native.Nat.{ℕ, ◌*◌}
use mathlib.Core.Path.{◌≡◌}
use mathlib.Core.Bool.{Bool, true, false, cond, ◌&&◌}
use native.Mathlib.Omega.{arith}
use lib.Dec.{leb, ltb}
use Rattle.std.specs.Prelude.{Some, None}
use Rattle.search.specs.Turn.{Best, step_one}
use Rattle.search.specs.declared.Step.{Step}
use Rattle.search.specs.declared.Step.TheVariants.{Stuck, Finished, Due}
use Rattle.search.specs.Job.{unreached}
use Rattle.search.specs.Bounds.{Within, DueWithin}

module _ (n : ℕ) where
  due_by : (b : Best) (t : Step) → Within n b → ((m a : ℕ) → t ≡ Due m a → b ≡ Some (m, a)) → DueWithin n t
  due_by b t h f = record { key = λ m a e. h.small.key m a (f m a e); vertex = λ m a e. h.vertex m a (f m a e) }

  -- what step 1 names is within bounds
  pub due_within : (w2 g : ℕ) (b : Best) → Within n b → DueWithin n (step_one w2 g b)
  unfolding step_one unreached
  due_within w2 g None h = due_by None Stuck h (λ m a e. let z : ◌≡◌ {A = ℕ} 0 1 = cc in absurd (omega arith))
  due_within w2 g (Some (k, s)) h = go (ltb g unreached && leb (10000 * g) (w2 * k))
    where
      go : (t : Bool) → DueWithin n (cond t Finished (Due k s))
      go true = due_by (Some (k, s)) Finished h (λ m a e. let z : ◌≡◌ {A = ℕ} 0 1 = cc in absurd (omega arith))
      go false = due_by (Some (k, s)) (Due k s) h (λ m a e. let p : k ≡ m = cc in let q : s ≡ a = cc in rw (p, q))

-- `Lead::better` meets its contract.
use Prim.Native.Nat.{ℕ, ◌≤◌, ◌<◌}
use mathlib.Core.Path.{◌≡◌, refl}
use mathlib.Core.Bool.{Bool, true, false, cond}
use native.Mathlib.Omega.{arith}
use borrow.Author.Tests.{lt-ltb, le-ltb, ne_eqb}
use lib.Dec.{eqb}
use Rattle.std.specs.Prelude.{Some, None}
use Rattle.turn.specs.declared.scan.Lead.{Lead}
use Rattle.search.specs.Turn.{Best, better}
use Rattle.search.specs.Bounds.{max_key}
use Rattle.turn.specs.Lead.{no_key, best_of}
use Rattle.turn.proofs.scan.Lead.better.Goals as goal

module _ (k s : ℕ) (l : Lead) (small : k ≤ max_key) where
  better_taken : k < l.key → best_of (record { key = k; vertex = s }) ≡ better true k s (best_of l)
  unfolding best_of better
  better_taken h = simp (ne_eqb k no_key (λ e. omega arith)) (go (eqb l.key no_key))
    where
      go : (b : Bool) → ◌≡◌ {A = Best} (Some (k, s)) (better true k s (cond {A = Best} b None (Some (l.key, l.vertex))))
      go true = refl
      go false = rw (lt-ltb k l.key h)

  better_left : l.key ≤ k → best_of l ≡ better true k s (best_of l)
  unfolding best_of better
  better_left h = simp (ne_eqb l.key no_key (λ e. omega arith), le-ltb k l.key h)

pub returns-then-k-self : goal.returns-then-k-self
returns-then-k-self c = better_taken _ _ c.args.self c.requires c.if-k-self.true

pub returns : goal.returns
returns c = better_left _ _ c.args.self c.requires c.if-k-self.false

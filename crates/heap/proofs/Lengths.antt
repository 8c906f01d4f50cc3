-- Every change keeps the number of words.
use mathlib.Core.Path.{◌≡◌, refl, ◌∙◌}
use mathlib.Core.Bool.{Bool, true, false, cond}
use mathlib.Core.List.{List}
use Prim.Native.Nat.{ℕ, zero, suc, ◌+◌, ◌-◌, ◌*◌}
use lib.ListN.{length, length-set}
use lib.Dec.{ltb, leb, eqb}
use Rattle.heap.specs.Words.{nowhere, pos_at, entry_at, put, child_of, sunk, above, risen, levels, cheaper_at, placed, removed, updated, cleared}
use Rattle.heap.proofs.Slots.{length_put}

either : (b : Bool) (w x y : List ℕ) → length x ≡ length w → length y ≡ length w → length (cond b x y) ≡ length w
either true w x y f g = f
either false w x y f g = g

module _ (v n e : ℕ) where
  length_sunk : (k j : ℕ) (w : List ℕ) → length (sunk v k n j e w) ≡ length w
  unfolding sunk
  length_sunk zero j w = length_put v w j e
  length_sunk (suc k) j w =
      let c : ℕ = child_of v w n (2 * j + 1) in
      either (leb n (2 * j + 1)) w _ _ (length_put v w j e)
      (either (ltb (entry_at v w c) e) w _ _ (length_sunk k c (put v w j (entry_at v w c)) ∙ length_put v w j (entry_at v w c)) (length_put v w j e))

  length_risen : (k j : ℕ) (w : List ℕ) → length (risen v k j e w) ≡ length w
  unfolding risen
  length_risen zero j w = length_put v w j e
  length_risen (suc k) j w =
      either (cheaper_at v w j e) w _ _ (length_risen k (above j) (put v w j (entry_at v w (above j))) ∙ length_put v w j (entry_at v w (above j)))
      (length_put v w j e)

  length_placed : (j : ℕ) (w : List ℕ) → length (placed v n j e w) ≡ length w
  unfolding placed
  length_placed j w = either (cheaper_at v w j e) w _ _ (length_risen levels j w) (length_sunk levels j w)

pub length_updated : (v n s : ℕ) (on : Bool) (e : ℕ) (w : List ℕ) → length (updated v n s on e w) ≡ length w
unfolding updated removed
length_updated v n s true e w = length_risen v n e levels (cond (eqb (pos_at w s) nowhere) n (pos_at w s)) w
length_updated v n s false e w =
    either (eqb (pos_at w s) nowhere) w _ _ refl
    (either (eqb (pos_at w s) (n - 1)) w _ _ (simp length-set) (length_placed v (n - 1) (entry_at v w (n - 1)) (pos_at w s) _ ∙ simp length-set))

pub length_cleared : (v : ℕ) (w : List ℕ) → length (cleared v w) ≡ length w
unfolding cleared
length_cleared zero w = refl
length_cleared (suc v) w = simp length-set (length_cleared v w)

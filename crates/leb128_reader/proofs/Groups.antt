-- A plan number by the values of its groups: x, y, z and u, of which each but the last has 128 added in its byte.
use Prim.Native.Nat.{ℕ, suc, ◌+◌, ◌*◌, ◌-◌, ◌^◌, ◌≤◌, ◌<◌}
use native.Mathlib.Omega.{arith}
use mathlib.Core.Path.{◌≡◌, refl}
use mathlib.Core.Logic.{⊎_elim}
use mathlib.Core.List.{List}
use lib.ListN.{length, get_or, get_or-eq_default}
use Rattle.leb128.specs.Number.{plan_groups, read, malformed_at}
use Rattle.std.specs.Prelude.{Ok, Err}
use Rattle.leb128.proofs.Laws.{split}
use Rattle.leb128.proofs.ReadAt.{Found, Lost, lost_end, lost_none, found_last, found_more, lost_zero, lost_more, answer_value, answer_lost}

-- ---- the byte at an offset, where 0 stands for none

pub past : (s : List ℕ) (i : ℕ) → length s ≤ i → 0 ≡ get_or s i 0
past s i h = omega (arith, get_or-eq_default s 0 h)

inside : (s : List ℕ) (i : ℕ) → 1 ≤ get_or s i 0 → i < length s
inside s i p = ⊎_elim (λ (h : i < length s). h) (λ (h : length s ≤ i). absurd (omega (arith, past s i h))) (split i (length s))

-- ---- a group g at an offset, and at most k after it

-- it is the last
ends : (k : ℕ) (s : List ℕ) (at g : ℕ) → get_or s at 0 ≡ g → at < length s → g < 128 → Found (suc k) s at g 1
ends k s at g e h l = rw (← e) (found_last k s at h (omega arith))

-- another follows at o
module _ (k : ℕ) (s : List ℕ) (at o g : ℕ) (next : suc at ≡ o) where
  goes : (v n : ℕ) → get_or s at 0 ≡ g + 128 → Found k s o v n → 1 ≤ v → Found (suc k) s at (g + 128 * v) (suc n)
  goes v n e f p =
      let q : get_or s at 0 - 128 + 128 * v ≡ g + 128 * v = omega arith in
      rw (← q) (found_more k s at o (inside s at (omega arith)) (omega arith) next v n f p)

  loses : get_or s at 0 ≡ g + 128 → Lost k s o → Lost (suc k) s at
  loses e f = lost_more k s at o (inside s at (omega arith)) (omega arith) next f

-- 0 follows: the last group of a form that is not the shortest, or none
stops : (k : ℕ) (s : List ℕ) (at o g : ℕ) → suc at ≡ o → get_or s at 0 ≡ g + 128 → get_or s o 0 ≡ 0 → Lost (suc (suc k)) s at
stops k s at o g next e z =
    let here : at < length s = inside s at (omega arith) in
    let follows : 128 ≤ get_or s at 0 = omega arith in
    ⊎_elim
    (λ h. lost_zero (suc k) s at o here follows next (get_or s o 0) 1 (found_last k s o h (omega arith)) z)
    (λ h. lost_more (suc k) s at o here follows next (lost_end (suc k) s o h))
    (split o (length s))

-- ---- the number

module _ (s : List ℕ) (at : ℕ) where
  found : (n v w : ℕ) → Found 4 s at w n → w ≡ v → v < 2 ^ 32 → Ok (v, at + n) ≡ read plan_groups s at
  unfolding plan_groups
  found n v w f e h = answer_value 4 s at v n (rw (← e) f) h

  lost : Lost 4 s at → Err (malformed_at at) ≡ read plan_groups s at
  unfolding plan_groups
  lost f = answer_lost 4 s at f

  pub none : length s ≤ at → Err (malformed_at at) ≡ read plan_groups s at
  none h = lost (lost_end 4 s at h)

  pub one : (x : ℕ) → x < 128 → at < length s → get_or s at 0 ≡ x → Ok (x, at + 1) ≡ read plan_groups s at
  one x l h e = found 1 x x (ends 3 s at x e h l) refl (omega arith)

  module _ (x : ℕ) (l₁ : x < 128) (e₁ : get_or s at 0 ≡ x + 128) (y : ℕ) (l₂ : y < 128) where
    n₁ : suc at ≡ at + 1
    n₁ = omega arith

    n₂ : suc (at + 1) ≡ at + 2
    n₂ = omega arith

    module _ (e₂ : get_or s (at + 1) 0 ≡ y) where
      pub zero_2 : x + y * 128 < 128 → Err (malformed_at at) ≡ read plan_groups s at
      zero_2 q = lost (stops 2 s at (at + 1) x n₁ e₁ (omega arith))

      pub two : 128 ≤ x + y * 128 → Ok (x + y * 128, at + 2) ≡ read plan_groups s at
      two q =
          let p : 1 ≤ y = omega arith in
          let f = ends 2 s (at + 1) y e₂ (inside s (at + 1) (omega arith)) l₂ in
          found 2 (x + y * 128) (x + 128 * y) (goes 3 s at (at + 1) x n₁ y 1 e₁ f p) (omega arith) (omega arith)

    module _ (e₂ : get_or s (at + 1) 0 ≡ y + 128) (z : ℕ) (l₃ : z < 128) where
      n₃ : suc (at + 2) ≡ at + 3
      n₃ = omega arith

      lost_2 : Lost 2 s (at + 2) → Lost 4 s at
      lost_2 f = loses 3 s at (at + 1) x n₁ e₁ (loses 2 s (at + 1) (at + 2) y n₂ e₂ f)

      found_2 : (v n : ℕ) → Found 2 s (at + 2) v n → 1 ≤ v → Found 4 s at (x + 128 * (y + 128 * v)) (suc (suc n))
      found_2 v n f p = goes 3 s at (at + 1) x n₁ (y + 128 * v) (suc n) e₁ (goes 2 s (at + 1) (at + 2) y n₂ v n e₂ f p) (omega arith)

      module _ (e₃ : get_or s (at + 2) 0 ≡ z) where
        pub zero_3 : x + y * 128 + z * 16384 < 16384 → Err (malformed_at at) ≡ read plan_groups s at
        zero_3 q = lost (loses 3 s at (at + 1) x n₁ e₁ (stops 1 s (at + 1) (at + 2) y n₂ e₂ (omega arith)))

        pub three : 16384 ≤ x + y * 128 + z * 16384 → Ok (x + y * 128 + z * 16384, at + 3) ≡ read plan_groups s at
        three q =
            let p : 1 ≤ z = omega arith in
            let f = ends 1 s (at + 2) z e₃ (inside s (at + 2) (omega arith)) l₃ in
            found 3 (x + y * 128 + z * 16384) (x + 128 * (y + 128 * z)) (found_2 z 1 f p) (omega arith) (omega arith)

      module _ (e₃ : get_or s (at + 2) 0 ≡ z + 128) (u : ℕ) (e₄ : get_or s (at + 3) 0 ≡ u) where
        pub zero_4 : u ≡ 0 → Err (malformed_at at) ≡ read plan_groups s at
        zero_4 q = lost (lost_2 (stops 0 s (at + 2) (at + 3) z n₃ e₃ (omega arith)))

        -- the fourth group is the last that may be
        pub over : 127 < u → Err (malformed_at at) ≡ read plan_groups s at
        over q =
            let h = inside s (at + 3) (omega arith) in
            let f = lost_more 0 s (at + 3) (at + 4) h (omega arith) (omega arith) (lost_none 0 s (at + 4) refl) in
            lost (lost_2 (loses 1 s (at + 2) (at + 3) z n₃ e₃ f))

        pub four : 1 ≤ u → u ≤ 127 → Ok (x + y * 128 + z * 16384 + u * 2097152, at + 4) ≡ read plan_groups s at
        four p q =
            let f = ends 0 s (at + 3) u e₄ (inside s (at + 3) (omega arith)) (omega arith) in
            found 4 (x + y * 128 + z * 16384 + u * 2097152) (x + 128 * (y + 128 * (z + 128 * u)))
            (found_2 (z + 128 * u) 2 (goes 1 s (at + 2) (at + 3) z n₃ u 1 e₃ f p) (omega arith))
            (omega arith) (omega arith)

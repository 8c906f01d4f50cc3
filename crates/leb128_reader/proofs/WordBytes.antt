-- The bytes from an offset on, by the groups of the word there and the bits that are tested in turn: a byte's group is its last seven bits.
use Prim.Native.Nat.{ℕ, ◌+◌, ◌*◌, ◌/◌, ◌%◌, ◌<◌}
use native.Mathlib.Omega.{arith}
use mathlib.Core.Path.{◌≡◌}
use mathlib.Core.List.{List}
use lib.ListN.{get_or}
use Rattle.leb128.specs.Number.{Bytes}
use Rattle.leb128_reader.specs.Word.{word_at}

pub small : (n : ℕ) → n % 128 < 128
small n = omega arith

-- ---- the lowest byte b of a number v, and what stands above it

module _ (v b above : ℕ) (is : v ≡ b + 256 * above) (l : b < 256) where
  last : v / 128 % 2 ≡ 0 → b ≡ v % 128
  last h = omega arith

  more : (v / 128 % 2 ≡ 0 → ⊥) → b ≡ v % 128 + 128
  more h = omega arith

-- ---- the bytes from an offset on: the last of a number, or one after which another follows

module _ (at w : ℕ) (s : List ℕ) (f : Bytes s) (is : w ≡ word_at s at) where
  sum : w ≡ get_or s at 0 + 256 * get_or s (at + 1) 0 + 65536 * get_or s (at + 2) 0 + 16777216 * get_or s (at + 3) 0
  unfolding word_at
  sum = is

  byte : (i : ℕ) → get_or s i 0 < 256
  unfolding Bytes
  byte i = f i

  -- the word, and without its lowest byte, and without its lowest two
  from_1 : w ≡ get_or s at 0 + 256 * (get_or s (at + 1) 0 + 256 * (get_or s (at + 2) 0 + 256 * get_or s (at + 3) 0))
  from_1 = omega (arith, sum)

  from_2 : w / 256 ≡ get_or s (at + 1) 0 + 256 * (get_or s (at + 2) 0 + 256 * get_or s (at + 3) 0)
  from_2 = omega (arith, from_1, byte at)

  from_3 : w / 65536 ≡ get_or s (at + 2) 0 + 256 * get_or s (at + 3) 0
  from_3 = omega (arith, from_2, byte (at + 1))

  pub last_1 : w / 128 % 2 ≡ 0 → get_or s at 0 ≡ w % 128
  last_1 = last w _ _ from_1 (byte _)

  pub more_1 : (w / 128 % 2 ≡ 0 → ⊥) → get_or s at 0 ≡ w % 128 + 128
  more_1 = more w _ _ from_1 (byte _)

  pub last_2 : w / 32768 % 2 ≡ 0 → get_or s (at + 1) 0 ≡ w / 256 % 128
  last_2 h = last (w / 256) _ _ from_2 (byte _) (omega (arith, h))

  pub more_2 : (w / 32768 % 2 ≡ 0 → ⊥) → get_or s (at + 1) 0 ≡ w / 256 % 128 + 128
  more_2 h = more (w / 256) _ _ from_2 (byte _) (λ e. h (omega (arith, e)))

  pub last_3 : w / 8388608 % 2 ≡ 0 → get_or s (at + 2) 0 ≡ w / 65536 % 128
  last_3 h = last (w / 65536) _ _ from_3 (byte _) (omega (arith, h))

  pub more_3 : (w / 8388608 % 2 ≡ 0 → ⊥) → get_or s (at + 2) 0 ≡ w / 65536 % 128 + 128
  more_3 h = more (w / 65536) _ _ from_3 (byte _) (λ e. h (omega (arith, e)))

  pub whole_4 : get_or s (at + 3) 0 ≡ w / 16777216
  whole_4 = omega (arith, from_3, byte (at + 2))

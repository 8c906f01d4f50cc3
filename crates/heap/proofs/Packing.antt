-- Entries are in the order of their keys, and of their vertices where keys are equal: for the reader, no proof rests on it.
use mathlib.Core.Path.{◌≡◌}
use Prim.Native.Nat.{ℕ, ◌<◌}
use native.Mathlib.Omega.{arith}
use Rattle.heap.specs.Words.{packed, vertex_of}

pub packed_vertex : (k s : ℕ) → s < 4096 → vertex_of (packed k s) ≡ s
packed_vertex k s h = omega arith

pub packed_less : (k l s t : ℕ) → s < 4096 → k < l → packed k s < packed l t
packed_less k l s t h m = omega arith

pub packed_tie : (k s t : ℕ) → s < t → packed k s < packed k t
packed_tie k s t h = omega arith

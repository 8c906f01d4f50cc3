-- Barred classes: the edges that a job may use.
use Rattle.std.specs.Prelude.{ℕ, ◌+◌, ◌*◌, ◌/◌, ◌%◌, ◌^◌, ◌<◌, ◌≡◌, ◌↔◌, Bool, cond, eqb}
use mathlib.Core.List.{List, [], ◌∷◌, Memᴰ}
use Rattle.graph.specs.declared.Edge.{Edge}

-- class k is barred: bit k of the number
unfoldable pub barred_by : ℕ → ℕ → Bool
barred_by b k = eqb (b / 2 ^ k % 2) 1

-- the edges whose class is not barred
unfoldable pub permitted : ℕ → List Edge → List Edge
permitted b [] = []
permitted b (e ∷ es) = cond (barred_by b e.class) (permitted b es) (e ∷ permitted b es)

-- ---- what they are, so that neither has to be believed

-- bit k of b is x: below it stands lo, above it hi
pub record Bit (b k x : ℕ) : Type 0 where
  pub lo : ℕ
  pub hi : ℕ
  pub below : lo < 2 ^ k
  pub is : b ≡ lo + (x + 2 * hi) * 2 ^ k

-- ps are some of es, in their order
pub data InOrder : List Edge → List Edge → Type 0 where
  end : InOrder [] []
  kept : {e : Edge} {ps es : List Edge} → InOrder ps es → InOrder (e ∷ ps) (e ∷ es)
  dropped : {e : Edge} {ps es : List Edge} → InOrder ps es → InOrder ps (e ∷ es)

-- ps are those of es that are permitted: an edge is one of them exactly if it is one of es and its class is not barred
pub record Permits (b : ℕ) (es ps : List Edge) : Type 0 where
  pub exact : (e : Edge) → Memᴰ e ps ↔ (Memᴰ e es × Bit b e.class 0)
  pub order : InOrder ps es

-- A vertex and its predecessors, as they are laid into route memory: for contracts of private functions alone, nothing that a reader must believe.
use Rattle.std.specs.Prelude.{ℕ, zero, suc, List, ◌∷◌}

-- the vertex x and its predecessors, p of each vertex, n in all, before those of r
unfoldable pub backs : (ℕ → ℕ) → ℕ → ℕ → List ℕ → List ℕ
backs p zero x r = r
backs p (suc n) x r = backs p n (p x) (x ∷ r)

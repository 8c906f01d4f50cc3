-- What every method on a heap keeps: for contracts inside the planner call, nothing that a reader must believe.
use Rattle.std.specs.Prelude.{◌≡◌}
use Rattle.heap.specs.declared.Heap.{Heap}

-- the same lent words, of as many vertices
pub record Kept (a b : Heap) : Type 0 where
  pub words : b.words.ghost_name ≡ a.words.ghost_name
  pub vertices : b.vertices ≡ a.vertices

-- and as many entries
pub record Same (a b : Heap) : Type 0 where
  pub words : b.words.ghost_name ≡ a.words.ghost_name
  pub vertices : b.vertices ≡ a.vertices
  pub count : b.count ≡ a.count

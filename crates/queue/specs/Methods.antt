-- What every method on the queues keeps: for contracts inside the planner call, nothing that a reader must believe.
use Rattle.std.specs.Prelude.{ℕ, ◌≡◌, length}
use Rattle.queue.specs.declared.Queues.{Queues}
use Rattle.queue.specs.Parts.{Heaps, heaps}

-- heap memory, and the counts
abbrev pub memory : Queues → Heaps
memory q = heaps q.heap.now q.counts.now

-- the same lent memory and as much of it, with the same tables, for v vertices
pub record Made (v : ℕ) (a b : Queues) : Type 0 where
  pub heap : b.heap.ghost_name ≡ a.heap.ghost_name
  pub counts : b.counts.ghost_name ≡ a.counts.ghost_name
  pub words : length b.heap.now ≡ length a.heap.now
  pub tallies : length b.counts.now ≡ length a.counts.now
  pub anchor : b.anchor ≡ a.anchor
  pub guides : b.guides ≡ a.guides
  pub vertices : b.vertices ≡ v
  pub tables : b.tables ≡ a.tables

-- and for as many as before
abbrev pub Same : Queues → Queues → Type 0
Same a b = Made a.vertices a b

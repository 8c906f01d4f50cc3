-- The heap of a table: what it is to hold for a list of vertices, and its first entry as the least key: for contracts inside the planner call, nothing that a reader must believe.
use Rattle.std.specs.Prelude.{ℕ, ◌+◌, ◌/◌, Bool, cond, List, eqb, get_or, Some, None}
use Rattle.search.specs.declared.Vertex.{Vertex}
use Rattle.search.specs.Turn.{Best, key, offered}
use Rattle.search.specs.Job.{at}
use Rattle.search.specs.Bounds.{max_g}
use Rattle.heap.specs.Words.{packed, vertex_of, entry_at}
use Rattle.heap.specs.Heap.{Want}
use Rattle.queue.specs.Parts.{Heaps, part_of}

-- the vertices that heuristic i may expand, whose numbers are hs, each with its key
unfoldable pub want_of : ℕ → ℕ → List ℕ → List Vertex → Want
want_of i w1 hs st =
    record {
      inside = λ s. offered i (get_or hs s 0) (at st s);
      entry = λ s. packed (key w1 (get_or hs s 0) (at st s)) s;
    }

-- no open vertex has a g above it, also while its turn is under way: that of a reached vertex and a cost of 32 bits
abbrev pub max_open_g : ℕ
max_open_g = max_g + 4294967295

-- the entry of vertex s, which is x, where h is the heuristic's number for it; 0 where it is not offered
unfoldable pub entry_for : ℕ → ℕ → Vertex → ℕ → Bool → ℕ
entry_for w1 h x s on = cond on (packed (key w1 h x) s) 0

-- the first entry of a heap of n
unfoldable pub top_of : ℕ → ℕ → List ℕ → Best
top_of v n w = cond (eqb n 0) None (Some (entry_at v w 0 / 4096, vertex_of (entry_at v w 0)))

-- the first entry of table i's heap
unfoldable pub top_in : ℕ → ℕ → Heaps → Best
top_in v i h = top_of v (get_or h.counts i 0) (part_of v i h.words)

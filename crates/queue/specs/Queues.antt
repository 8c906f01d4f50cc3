-- Every table's heap holds exactly the vertices that are offered to it, with their keys of this round, in heap order: for contracts inside the planner call, nothing that a reader must believe.
use Rattle.std.specs.Prelude.{ℕ, suc, ◌-◌, ◌*◌, ◌≤◌, ◌<◌, ◌≡◌, List, ◌++◌, T, length, get_or, set, take, replicate}
use Rattle.graph.specs.Limits.{max_vertices}
use Rattle.search.specs.declared.Vertex.{Vertex}
use Rattle.search.specs.Job.{fresh, at}
use Rattle.search.specs.Bounds.{max_factor, Priced}
use Rattle.graph.specs.declared.Size.{Size}
use Rattle.workspace.specs.Layout.{Words, Room, vertices_of}
use Rattle.heap.specs.Heap.{Heap}
use Rattle.queue.specs.declared.Tables.{Tables}
use Rattle.queue.specs.Parts.{Heaps, part_of, table_of}
use Rattle.queue.specs.Table.{want_of, max_open_g}

-- what keys are made of: v numbers for the anchor and for each guide, and a factor
pub record Source (v : ℕ) (t : Tables) (anchor sheets : List ℕ) : Type 0 where
  pub few : v ≤ max_vertices
  pub most : t.guides ≤ 8
  pub factor : t.w1 ≤ max_factor
  pub anchored : v ≤ length anchor
  pub sheeted : t.guides * v ≤ length sheets

-- a count for each table, and their words, no more
pub record HeapRoom (v : ℕ) (t : Tables) (h : Heaps) : Type 0 where
  pub counts : t.guides < length h.counts
  pub words : length h.words ≡ suc t.guides * (3 * v)

-- table i has the heap of the vertices st
abbrev pub Queue : ℕ → Tables → List ℕ → List ℕ → ℕ → List Vertex → Heaps → Type 0
Queue v t anchor sheets i st h =
    Heap v (want_of i t.w1 (table_of v anchor sheets i) st) (get_or h.counts i 0) (part_of v i h.words)

-- numbers of 32 bits
abbrev pub Narrow : ℕ → List ℕ → List ℕ → Type 0
Narrow v anchor sheets = (i s : ℕ) → get_or (table_of v anchor sheets i) s 0 ≤ 4294967295

-- every table has its heap
pub record Queues (v : ℕ) (t : Tables) (anchor sheets : List ℕ) (st : List Vertex) (h : Heaps) : Type 0 where
  pub source : Source v t anchor sheets
  pub narrow : Narrow v anchor sheets
  pub sized : length st ≡ v
  pub room : HeapRoom v t h
  pub each : (i : ℕ) → i ≤ t.guides → Queue v t anchor sheets i st h

-- ---- a vertex stored

-- while vertex s is stored as x: the first k tables have it, the others have the vertices as they were
pub record Between (v : ℕ) (t : Tables) (anchor sheets : List ℕ) (s : ℕ) (x : Vertex) (k : ℕ) (st : List Vertex) (h : Heaps) : Type 0 where
  pub source : Source v t anchor sheets
  pub narrow : Narrow v anchor sheets
  pub sized : length st ≡ v
  pub room : HeapRoom v t h
  pub small : s < v
  pub cost : T x.opened → x.g ≤ max_open_g
  pub falls : T (at st s).opened → x.g ≤ (at st s).g
  pub new : (i : ℕ) → i < k → i ≤ t.guides → Queue v t anchor sheets i (set st s x) h
  pub old : (i : ℕ) → k ≤ i → i ≤ t.guides → Queue v t anchor sheets i st h

-- table k is next: what is asked, and what is done, whatever the vertices are
pub record StoringIn (v : ℕ) (t : Tables) (anchor sheets : List ℕ) (k s : ℕ) (x : Vertex) (h : Heaps) : Type 0 where
  pub vertices : List Vertex
  pub last : k ≤ t.guides
  pub between : Between v t anchor sheets s x k vertices h

pub record StoredIn (v : ℕ) (t : Tables) (anchor sheets : List ℕ) (k s : ℕ) (x : Vertex) (h h' : Heaps) : Type 0 where
  pub stored : (st : List Vertex) → Between v t anchor sheets s x k st h → Between v t anchor sheets s x (suc k) st h'

-- the guides' tables are next
pub record StoringGuides (v : ℕ) (t : Tables) (anchor sheets : List ℕ) (s : ℕ) (x : Vertex) (h : Heaps) : Type 0 where
  pub vertices : List Vertex
  pub between : Between v t anchor sheets s x 1 vertices h

pub record StoredGuides (v : ℕ) (t : Tables) (anchor sheets : List ℕ) (s : ℕ) (x : Vertex) (h h' : Heaps) : Type 0 where
  pub stored : (st : List Vertex) → Between v t anchor sheets s x 1 st h → Between v t anchor sheets s x (suc t.guides) st h'

-- all tables are
pub record Storing (v : ℕ) (t : Tables) (anchor sheets : List ℕ) (s : ℕ) (old x : Vertex) (h : Heaps) : Type 0 where
  pub vertices : List Vertex
  pub queues : Queues v t anchor sheets vertices h
  pub is : at vertices s ≡ old
  pub small : s < v
  pub cost : T x.opened → x.g ≤ max_open_g
  pub falls : T old.opened → x.g ≤ old.g

pub record Stored (v : ℕ) (t : Tables) (anchor sheets : List ℕ) (s : ℕ) (old x : Vertex) (h h' : Heaps) : Type 0 where
  pub stored : (st : List Vertex) → Queues v t anchor sheets st h → at st s ≡ old → Queues v t anchor sheets (set st s x) h'

-- ---- made anew

pub record Building (z : Size) (t : Tables) (anchor sheets : List ℕ) (m : Words) (h : Heaps) : Type 0 where
  pub source : Source z.vertices t anchor sheets
  pub room : HeapRoom z.vertices t h
  pub memory : Room z m
  pub priced : Priced (vertices_of z m)

-- the first k vertices as they are, the others as no walk has reached them
unfoldable pub first_only : ℕ → List Vertex → List Vertex
first_only k st = take k st ++ replicate (length st - k) fresh

-- vertex s is next
pub record Entering (z : Size) (t : Tables) (anchor sheets : List ℕ) (m : Words) (s : ℕ) (h : Heaps) : Type 0 where
  pub memory : Room z m
  pub priced : Priced (vertices_of z m)
  pub small : s < z.vertices
  pub queues : Queues z.vertices t anchor sheets (first_only s (vertices_of z m)) h

-- What a heap of n entries holds, and its order: for contracts inside the planner call, nothing that a reader must believe.
use Rattle.std.specs.Prelude.{ℕ, ◌+◌, ◌-◌, ◌*◌, ◌≤◌, ◌<◌, ◌≡◌, ◌≢◌, Bool, not, List, length, T}
use Rattle.heap.specs.Words.{nowhere, vertex_of, pos_at, entry_at, put, sunk}

-- what a heap of v vertices is to hold: which of them, and the entry of each
pub record Want : Type 0 where
  pub inside : ℕ → Bool
  pub entry : ℕ → ℕ

-- slot j has the entry of its vertex, which stands there
pub record Slot (v : ℕ) (a : Want) (h p : ℕ → ℕ) (j : ℕ) : Type 0 where
  pub small : vertex_of (h j) < v
  pub inside : T (a.inside (vertex_of (h j)))
  pub is : h j ≡ a.entry (vertex_of (h j))
  pub stands : p (vertex_of (h j)) ≡ j

-- vertex s is in the slot where it stands
pub record There (n : ℕ) (h p : ℕ → ℕ) (s : ℕ) : Type 0 where
  pub slot : p s < n
  pub is : vertex_of (h (p s)) ≡ s

-- the n slots h hold what they are to, and p says where
pub record Holds (v : ℕ) (a : Want) (n : ℕ) (h p : ℕ → ℕ) : Type 0 where
  pub each : (j : ℕ) → j < n → Slot v a h p j
  pub there : (s : ℕ) → s < v → T (a.inside s) → There n h p s
  pub away : (s : ℕ) → s < v → T (not (a.inside s)) → p s ≡ nowhere

-- slot j is one of the two below slot i
pub record Below (i j : ℕ) : Type 0 where
  pub low : 2 * i < j
  pub high : j ≤ 2 * i + 2

-- no entry is dearer than one below it
abbrev pub Ordered : ℕ → (ℕ → ℕ) → Type 0
Ordered n h = (i j : ℕ) → Below i j → j < n → h i ≤ h j

-- slot x may be out of order with the one above it and with those below it; these are in order with one another
pub record Loose (n : ℕ) (h : ℕ → ℕ) (x : ℕ) : Type 0 where
  pub rest : (i j : ℕ) → Below i j → j < n → i ≢ x → j ≢ x → h i ≤ h j
  pub past : (i j : ℕ) → Below i x → Below x j → j < n → h i ≤ h j

-- slot x is in order with the one above it; with those below it
abbrev pub Over : (ℕ → ℕ) → ℕ → Type 0
Over h x = (i : ℕ) → Below i x → h i ≤ h x

abbrev pub Under : ℕ → (ℕ → ℕ) → ℕ → Type 0
Under n h x = (j : ℕ) → Below x j → j < n → h x ≤ h j

-- the heap in the words w
pub record Heap (v : ℕ) (a : Want) (n : ℕ) (w : List ℕ) : Type 0 where
  pub holds : Holds v a n (entry_at v w) (pos_at w)
  pub ordered : Ordered n (entry_at v w)

-- what the code asks of the words, whatever they are to hold
pub record Safe (v n : ℕ) (w : List ℕ) : Type 0 where
  pub few : v ≤ 4096
  pub fit : n ≤ v
  pub room : 3 * v ≤ length w
  pub each : (j : ℕ) → j < n → vertex_of (entry_at v w j) < v

-- what the code asks where vertex s is to have the entry e, or to go
pub record Updatable (v n s : ℕ) (on : Bool) (e : ℕ) (w : List ℕ) : Type 0 where
  pub small : s < v
  pub stands : pos_at w s ≢ nowhere → pos_at w s < n
  pub of : T on → vertex_of e < v
  pub more : T on → pos_at w s ≡ nowhere → n < v

-- a slot below slot j of n, with a level left, or j itself
pub record Lower (k n j c : ℕ) : Type 0 where
  pub less : c < n
  pub left : c ≢ j → 0 < k

-- with the entry of slot c moved up to slot j, or c the same: what is left to do for e to stand at j or below
pub record Lowers (v k n j e : ℕ) (w w' : List ℕ) (c : ℕ) : Type 0 where
  pub slot : Lower k n j c
  pub stays : c ≡ j → put v w' j e ≡ sunk v k n j e w
  pub goes : c ≢ j → sunk v (k - 1) n c e w' ≡ sunk v k n j e w

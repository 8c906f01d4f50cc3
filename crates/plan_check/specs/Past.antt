-- An edge that is next and the cursor past it: for contracts of code that goes through a plan, nothing that a reader must believe.
use Rattle.std.specs.Prelude.{ℕ, ◌+◌, List, ◌≡◌, Ok, Err}
use Rattle.graph.specs.declared.Edge.{Edge}
use Rattle.graph.specs.declared.Cursor.{Cursor}
use Rattle.graph.specs.Refusal.{EdgeRead}
use Rattle.graph.specs.Plan.{next_edge}

-- the edge of these numbers, and the cursor past it
unfoldable pub next_as : ℕ → ℕ → ℕ → ℕ → ℕ → EdgeRead
next_as t h x y at = Ok (record { tail = t; head = h; cost = x; class = y }, record { at = at; tail = t; least = h + 1 })

-- the cursor past an edge that was read
unfoldable pub cursor_past : Cursor → EdgeRead → Cursor
cursor_past old (Ok (e, c)) = c
cursor_past old (Err e) = old

-- an edge is next after the cursor, as in a plan that was checked
pub record HasNext (v : ℕ) (s : List ℕ) (c : Cursor) : Type 0 where
  pub edge : Edge
  pub after : Cursor
  pub is : next_edge v s c ≡ Ok (edge, after)

-- Edges stored in lists: for contracts of private functions alone, nothing that a reader must believe.
use Rattle.std.specs.Prelude.{ℕ, ◌≡◌, ◌<◌, ◌≤◌, List, map, length, set}
use Rattle.graph.specs.declared.Edge.{Edge}
use Rattle.graph.specs.Lists.{tail_of, head_of, cost_of, class_of, over}
use Rattle.plan_reader.specs.declared.lists.Lists.{Lists}

-- the lists are still those that were lent
pub record SameLists (old new : Lists) : Type 0 where
  pub tails : new.tails.ghost_name ≡ old.tails.ghost_name
  pub heads : new.heads.ghost_name ≡ old.heads.ghost_name
  pub costs : new.costs.ghost_name ≡ old.costs.ghost_name
  pub classes : new.classes.ghost_name ≡ old.classes.ghost_name

-- each list has a place i
pub record HasPlace (i : ℕ) (l : Lists) : Type 0 where
  pub tails : i < length l.tails.now
  pub heads : i < length l.heads.now
  pub costs : i < length l.costs.now
  pub classes : i < length l.classes.now

-- one edge stored at i
pub record EdgeStored (i : ℕ) (e : Edge) (old new : Lists) : Type 0 where
  pub same : SameLists old new
  pub tails : new.tails.now ≡ set old.tails.now i e.tail
  pub heads : new.heads.now ≡ set old.heads.now i e.head
  pub costs : new.costs.now ≡ set old.costs.now i e.cost
  pub classes : new.classes.now ≡ set old.classes.now i e.class

-- each list has room for m edges
pub record HasRoom (m : ℕ) (l : Lists) : Type 0 where
  pub tails : m ≤ length l.tails.now
  pub heads : m ≤ length l.heads.now
  pub costs : m ≤ length l.costs.now
  pub classes : m ≤ length l.classes.now

-- all edges stored from the front on
pub record AllStored (es : List Edge) (old new : Lists) : Type 0 where
  pub same : SameLists old new
  pub tails : new.tails.now ≡ over (map tail_of es) old.tails.now
  pub heads : new.heads.now ≡ over (map head_of es) old.heads.now
  pub costs : new.costs.now ≡ over (map cost_of es) old.costs.now
  pub classes : new.classes.now ≡ over (map class_of es) old.classes.now

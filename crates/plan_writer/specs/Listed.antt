-- A plan's edges, and what it was made of: for contracts of private functions alone, nothing that a reader must believe.
use Rattle.std.specs.Prelude.{ℕ, ◌≡◌, List}
use Rattle.graph.specs.declared.Edge.{Edge}
use Rattle.graph.specs.Lists.{edges_of}
use Rattle.plan_writer.specs.declared.plan.Plan.{Plan}

-- the edges that its lists hold
abbrev pub listed : Plan → List Edge
listed p = edges_of p.tails.now p.heads.now p.costs.now p.classes.now

-- V and the lists are these
pub record Lends (v : ℕ) (ts hs cs ks : List ℕ) (p : Plan) : Type 0 where
  pub vertices : p.vertices ≡ v
  pub tails : p.tails.now ≡ ts
  pub heads : p.heads.now ≡ hs
  pub costs : p.costs.now ≡ cs
  pub classes : p.classes.now ≡ ks

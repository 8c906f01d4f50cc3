-- Laws of the edge from one vertex to another: what is found among the edges of a vertex in work memory is that of the graph.
use mathlib.Core.Path.{◌≡◌, refl, sym, ap, ◌∙◌}
use mathlib.Core.Logic.{◌≢◌}
use mathlib.Core.Bool.{Bool, true, false, cond, ◌&&◌}
use mathlib.Core.List.{List, [], ◌∷◌, ◌++◌}
use Prim.Native.Nat.{ℕ, zero, suc, ◌+◌, ◌-◌, ◌≤◌, ◌<◌}
use native.Mathlib.Numerals.{add-one}
use native.Mathlib.Omega.{arith}
use lib.Dec.{eqb}
use borrow.Author.Tests.{eq-eqb, ne_eqb}
use Rattle.graph.specs.declared.Edge.{Edge}
use Rattle.std.specs.Prelude.{Some, None}
use Rattle.search.specs.Walk.{RouteCost, edge_cost}
use Rattle.search.proofs.Tools.{same_cases}
use Rattle.graph.specs.declared.Size.{Size}
use Rattle.workspace.specs.Layout.{first_of, edge_at, edges_run, edges_at, edges_under, graph_of}
use Rattle.route.specs.Costs.{or_else, AtMost}

-- ---- the first cost that is found

else_none : (x : RouteCost) → or_else x None ≡ x
unfolding or_else
else_none None = refl
else_none (Some c) = refl

pub none_most : (n : ℕ) → AtMost n None
none_most n = record { most = λ k e. let q : ◌≡◌ {A = ℕ} 0 1 = cc in absurd (omega arith) }

pub cost_most : (n c : ℕ) → c ≤ n → AtMost n (Some c)
cost_most n c h = record { most = λ k e. let q : c ≡ k = cc in omega arith }

-- ---- one edge after another

-- the first edge: whether it leads from a to b
cost_here : (e : Edge) (r : List Edge) (a b : ℕ) → e.tail ≡ a → e.head ≡ b → edge_cost (e ∷ r) a b ≡ Some e.cost
unfolding edge_cost
cost_here e r a b p q = rw (eq-eqb e.tail a p, eq-eqb e.head b q)

cost_later : (e : Edge) (r : List Edge) (a b : ℕ) → e.head ≢ b → edge_cost (e ∷ r) a b ≡ edge_cost r a b
unfolding edge_cost
cost_later e r a b q = by (eqb e.tail a) (ne_eqb e.head b q)
  where
    by : (t : Bool) {u : Bool} → u ≡ false → cond (t && u) (Some e.cost) (edge_cost r a b) ≡ edge_cost r a b
    by true h = rw h
    by false h = refl

append_by : (t : Bool) (c : ℕ) (x y z : RouteCost) → x ≡ or_else y z → cond t (Some c) x ≡ or_else (cond t (Some c) y) z
unfolding or_else
append_by true c x y z e = refl
append_by false c x y z e = e

edge_append : (es fs : List Edge) (a b : ℕ) → edge_cost (es ++ fs) a b ≡ or_else (edge_cost es a b) (edge_cost fs a b)
unfolding edge_cost or_else
edge_append [] fs a b = refl
edge_append (e ∷ es) fs a b =
    append_by (eqb e.tail a && eqb e.head b) e.cost (edge_cost (es ++ fs) a b) (edge_cost es a b) (edge_cost fs a b) (edge_append es fs a b)

-- ---- in work memory

module _ (z : Size) (w : List ℕ) (a b : ℕ) where
  other_run : (t n j : ℕ) → t ≢ a → edge_cost (edges_run z w t n j) a b ≡ None
  unfolding edges_run edge_cost edge_at
  other_run t zero j h = refl
  other_run t (suc n) j h = rw (ne_eqb t a h) (other_run t n (suc j) h)

  other_edges : (t : ℕ) → t ≢ a → edge_cost (edges_at z w t) a b ≡ None
  unfolding edges_at
  other_edges t h = other_run t (first_of w (suc t) - first_of w t) (first_of w t) h

  -- the edges of one tail, then those of n others
  under_cons : (n t : ℕ) → edge_cost (edges_under z w (suc n) t) a b ≡ or_else (edge_cost (edges_at z w t) a b) (edge_cost (edges_under z w n (suc t)) a b)
  unfolding edges_under
  under_cons n t = edge_append (edges_at z w t) (edges_under z w n (suc t)) a b

  -- none of n tails from t on is a
  outside : (n t : ℕ) → ((i : ℕ) → t ≤ i → i < t + n → i ≢ a) → edge_cost (edges_under z w n t) a b ≡ None
  unfolding edges_under edge_cost or_else
  outside zero t h = refl
  outside (suc n) t h =
      rw (under_cons n t, other_edges t (h t (omega arith) (omega arith)), outside n (suc t) (λ i l m. h i (omega arith) (omega arith))) refl

  inside : (n t : ℕ) → t ≤ a → a < t + n → edge_cost (edges_under z w n t) a b ≡ edge_cost (edges_at z w a) a b
  unfolding or_else
  inside zero t l h = absurd (omega arith)
  inside (suc n) t l h =
      same_cases t a
      (λ e. under_cons n t ∙ rw (outside n (suc t) (λ i k m q. omega arith), else_none, e))
      (λ e. under_cons n t ∙ rw (other_edges t e) (inside n (suc t) (omega arith) (omega arith)))

  -- of a tail that is no vertex
  pub cost_outside : z.vertices ≤ a → edge_cost (graph_of z w) a b ≡ None
  unfolding graph_of
  cost_outside h = outside z.vertices 0 (λ i l m q. omega arith)

  -- ---- the loop: edge j is the next, before edge `end`

  module _ (end j : ℕ) where
    -- what is found among the edges from here on is that of the graph
    pub Looking : Type 0
    Looking = edge_cost (edges_run z w a (end - j) j) a b ≡ edge_cost (graph_of z w) a b

  pub looking_none : (end j : ℕ) → a < z.vertices → j ≡ first_of w a → end ≡ first_of w (a + 1) → Looking end j
  unfolding Looking graph_of edges_at
  looking_none end j h p q = rw (p, q, add-one) (sym (inside z.vertices 0 (omega arith) (omega arith)))

  module _ (end j : ℕ) (k : Looking end j) where
    module _ (h : j < end) (e : Edge) (is : e ≡ edge_at z w a j) where
      next : edges_run z w a (end - j) j ≡ e ∷ edges_run z w a (end - (j + 1)) (j + 1)
      unfolding edges_run
      next = let q : end - j ≡ suc (end - (j + 1)) = omega arith in rw (q, add-one, is)

      tail_is : e.tail ≡ a
      unfolding edge_at
      tail_is = ap (λ (x : Edge). x.tail) is

      pub looking_found : e.head ≡ b → Some e.cost ≡ edge_cost (graph_of z w) a b
      unfolding Looking
      looking_found q = sym (cost_here e (edges_run z w a (end - (j + 1)) (j + 1)) a b tail_is q) ∙ (rw next at k)

      pub looking_more : e.head ≢ b → Looking end (j + 1)
      unfolding Looking
      looking_more q = sym (cost_later e (edges_run z w a (end - (j + 1)) (j + 1)) a b q) ∙ (rw next at k)

    pub looking_all : end ≤ j → None ≡ edge_cost (graph_of z w) a b
    unfolding Looking edges_run edge_cost
    looking_all h = let q : end - j ≡ 0 = omega arith in rw q at k

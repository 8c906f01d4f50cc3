-- Laws of the trace of predecessors: one vertex further back, and its number of vertices and its cost at each vertex, and at the end.
use mathlib.Core.Path.{◌≡◌, refl, sym, ap, ◌∙◌}
use mathlib.Core.Logic.{◌≢◌}
use mathlib.Core.Bool.{Bool, true, false}
use mathlib.Core.List.{List, [], ◌∷◌}
use Prim.Native.Nat.{ℕ, zero, suc, ◌+◌, ◌*◌, ◌-◌, ◌≤◌, ◌<◌}
use native.Mathlib.Nat.{add_assoc}
use native.Mathlib.Numerals.{add-one}
use native.Mathlib.Omega.{arith}
use lib.Dec.{eqb}
use lib.ListN.{length}
use borrow.Author.Tests.{eq-eqb, ne_eqb}
use Rattle.graph.specs.declared.Edge.{Edge}
use Rattle.std.specs.Prelude.{Some, None}
use Rattle.search.specs.Walk.{RouteCost, edge_cost, on_edge, cost_from, route_cost}
use Rattle.search.specs.Rounds.{trace}
use Rattle.search.proofs.Tools.{same_cases}
use Rattle.graph.specs.declared.Size.{Size}
use Rattle.workspace.specs.Layout.{pred_of, graph_of}
use Rattle.route.specs.declared.trace.Traced.{Traced}
use Rattle.route.specs.Trace.{traced_in, traced_cost, measured}
use Rattle.route.specs.Costs.{plus, extended, Payable, max_word, AtMost}
use Rattle.route.proofs.Found.{cost_most}

-- ---- one vertex further back

module _ (pred : ℕ → ℕ) (start : ℕ) where
  trace_on : (n x : ℕ) (r : List ℕ) (t : Bool) → eqb x start ≡ t
      → trace pred start (suc n) x r ≡ elim t [ true ↦ x ∷ r | false ↦ trace pred start n (pred x) (x ∷ r) ]
  unfolding trace
  trace_on n x r t e = ap (λ b. elim b [ true ↦ x ∷ r | false ↦ trace pred start n (pred x) (x ∷ r) ]) e

  pub trace_stop : (n x : ℕ) (r : List ℕ) → x ≡ start → trace pred start (suc n) x r ≡ x ∷ r
  trace_stop n x r e = trace_on n x r true (eq-eqb x start e)

  pub trace_go : (n x : ℕ) (r : List ℕ) → x ≢ start → trace pred start (suc n) x r ≡ trace pred start n (pred x) (x ∷ r)
  trace_go n x r e = trace_on n x r false (ne_eqb x start e)

  pub trace_none : (x : ℕ) (r : List ℕ) → trace pred start 0 x r ≡ r
  unfolding trace
  trace_none x r = refl

  -- the last vertex that there is room for
  trace_last : (x : ℕ) (r : List ℕ) → trace pred start 1 x r ≡ x ∷ r
  trace_last x r = same_cases x start (λ e. trace_stop 0 x r e) (λ e. trace_go 0 x r e ∙ trace_none (pred x) (x ∷ r))

-- predecessors that agree are traced alike
pub trace_same :
    (p q : ℕ → ℕ) → ((x : ℕ) → p x ≡ q x) → (start n x : ℕ) (r : List ℕ) → trace p start n x r ≡ trace q start n x r
trace_same p q h start zero x r = trace_none p start x r ∙ sym (trace_none q start x r)
trace_same p q h start (suc n) x r =
    same_cases x start
    (λ e. trace_stop p start n x r e ∙ sym (trace_stop q start n x r e))
    (λ e.
    trace_go p start n x r e
    ∙ trace_same p q h start n (p x) (x ∷ r)
    ∙ ap (λ (y : ℕ). trace q start n y (x ∷ r)) (h x)
    ∙ sym (trace_go q start n x r e))

-- ---- one vertex before others

module _ (edges : List Edge) where
  shift_by : (n k : ℕ) (b : ℕ) (r : List ℕ) (x : RouteCost)
      → ((c : ℕ) → cost_from edges (n + (k + c)) b r ≡ plus (Some n) (cost_from edges (k + c) b r))
      → on_edge x (λ c. cost_from edges (n + k + c) b r) ≡ plus (Some n) (on_edge x (λ c. cost_from edges (k + c) b r))
  unfolding on_edge plus
  shift_by n k b r None f = refl
  shift_by n k b r (Some c) f = rw add_assoc (f c)

  shift : (n k a : ℕ) (r : List ℕ) → cost_from edges (n + k) a r ≡ plus (Some n) (cost_from edges k a r)
  unfolding cost_from plus
  shift n k a [] = refl
  shift n k a (b ∷ r) = shift_by n k b r (edge_cost edges a b) (λ c. shift n (k + c) b r)

  cons_by : (b : ℕ) (r : List ℕ) (x : RouteCost) → on_edge x (λ c. cost_from edges (0 + c) b r) ≡ plus x (cost_from edges 0 b r)
  unfolding on_edge plus
  cons_by b r None = refl
  cons_by b r (Some c) = let e : 0 + c ≡ c + 0 = omega arith in rw e (shift c 0 b r)

  route_cons : (a b : ℕ) (r : List ℕ) → route_cost edges (a ∷ b ∷ r) ≡ plus (edge_cost edges a b) (route_cost edges (b ∷ r))
  unfolding route_cost cost_from
  route_cons a b r = cons_by b r (edge_cost edges a b)

  measured_one : (x : ℕ) → record { first = x; length = 1; cost = Some 0 } ≡ measured edges (x ∷ [])
  unfolding measured route_cost cost_from
  measured_one x = refl

  measured_cons : (a b : ℕ) (r : List ℕ) → extended edges a (measured edges (b ∷ r)) ≡ measured edges (a ∷ b ∷ r)
  unfolding extended measured
  measured_cons a b r = rw (add-one, route_cons a b r)

-- ---- costs within bounds

plus_most : (m n : ℕ) (x y : RouteCost) → AtMost m x → AtMost n y → AtMost (m + n) (plus x y)
unfolding plus
plus_most m n None y h k = record { most = λ i e. let q : ◌≡◌ {A = ℕ} 0 1 = cc in absurd (omega arith) }
plus_most m n (Some c) None h k = record { most = λ i e. let q : ◌≡◌ {A = ℕ} 0 1 = cc in absurd (omega arith) }
plus_most m n (Some c) (Some d) h k = cost_most (m + n) (c + d) (omega (arith, h.most c refl, k.most d refl))

-- ---- one vertex further back

module _ (edges : List Edge) (x : ℕ) (t : Traced) where
  pub back_length : (t' : Traced) → t' ≡ extended edges x t → t'.length ≡ t.length + 1
  unfolding extended
  back_length t' e = ap (λ (y : Traced). y.length) e

  back_first : (t' : Traced) → t' ≡ extended edges x t → t'.first ≡ x
  unfolding extended
  back_first t' e = ap (λ (y : Traced). y.first) e

  pub back_step :
      (p : ℕ) (e r : RouteCost) → p ≡ x → e ≡ edge_cost edges p t.first → AtMost max_word e → r ≡ plus e t.cost → Payable t →
      (record { first = p; length = t.length + 1; cost = r } ≡ extended edges x t) × AtMost (max_word * (t.length + 1)) r
  unfolding extended
  back_step p e r f g m h k =
      let q : max_word * (t.length + 1) ≡ max_word + max_word * t.length = omega arith in
      (rw (h, g, f), rw (q, h) (plus_most max_word (max_word * t.length) e t.cost m k))

-- ---- the loop

module _ (z : Size) (w : List ℕ) (start goal : ℕ) where
  -- t is what is traced so far, and the trace goes on from its first vertex
  pub record Tracing (t : Traced) : Type 0 where
    pub rest : List ℕ
    pub left : ℕ
    pub is : t ≡ measured (graph_of z w) (t.first ∷ rest)
    pub room : left + length rest ≡ z.vertices
    pub more : 0 < left
    pub ahead : trace (pred_of z w) start left t.first rest ≡ traced_in z w start goal
    pub pays : Payable t

  pub tracing_none : goal < z.vertices → Tracing (record { first = goal; length = 1; cost = Some 0 })
  unfolding traced_in
  tracing_none h =
      record {
        rest = [];
        left = z.vertices;
        is = measured_one (graph_of z w) goal;
        room = omega arith;
        more = omega arith;
        ahead = refl;
        pays = cost_most (max_word * 1) 0 (omega arith);
      }

  module _ (t : Traced) (k : Tracing t) where
    counted : t.length ≡ suc (length k.rest)
    unfolding measured
    counted = ap (λ (x : Traced). x.length) k.is

    pub tracing_more : (t' : Traced) → t.length < z.vertices → t.first ≢ start
        → t' ≡ extended (graph_of z w) (pred_of z w t.first) t → Payable t' → Tracing t'
    tracing_more t' h ne e p =
        let x : ℕ = pred_of z w t.first in
        let s : suc (k.left - 1) ≡ k.left = omega (arith, k.more) in
        let f : t'.first ≡ x = back_first (graph_of z w) x t t' e in
        record {
          rest = t.first ∷ k.rest;
          left = k.left - 1;
          is = e ∙ ap (extended (graph_of z w) x) k.is ∙ measured_cons (graph_of z w) x t.first k.rest ∙ ap (λ (y : ℕ). measured (graph_of z w) (y ∷ t.first ∷ k.rest)) (sym f);
          room = omega (arith, k.room, k.more);
          more = omega (arith, counted, k.room, k.more);
          ahead = rw f (sym (trace_go (pred_of z w) start (k.left - 1) t.first k.rest ne) ∙ rw s k.ahead);
          pays = p;
        }

    traced_so : t.first ∷ k.rest ≡ traced_in z w start goal → t ≡ measured (graph_of z w) (traced_in z w start goal)
    traced_so e = k.is ∙ ap (measured (graph_of z w)) e

    pub tracing_start : t.first ≡ start → t ≡ measured (graph_of z w) (traced_in z w start goal)
    tracing_start e =
        let s : suc (k.left - 1) ≡ k.left = omega (arith, k.more) in
        traced_so (sym (trace_stop (pred_of z w) start (k.left - 1) t.first k.rest e) ∙ rw s k.ahead)

    pub tracing_full : z.vertices ≤ t.length → t ≡ measured (graph_of z w) (traced_in z w start goal)
    tracing_full h =
        let s : k.left ≡ 1 = omega (arith, counted, k.room, k.more) in
        traced_so (sym (trace_last (pred_of z w) start t.first k.rest) ∙ rw s at k.ahead)

-- ---- the figures of the traced route

module _ (z : Size) (w : List ℕ) (start goal : ℕ) (t : Traced) (e : t ≡ measured (graph_of z w) (traced_in z w start goal)) where
  pub figures_length : t.length ≡ length (traced_in z w start goal)
  unfolding measured
  figures_length = ap (λ (x : Traced). x.length) e

  pub figures_cost : traced_cost z w start goal ≡ t.cost
  unfolding measured traced_cost
  figures_cost = sym (ap (λ (x : Traced). x.cost) e)

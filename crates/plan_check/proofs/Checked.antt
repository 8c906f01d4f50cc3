-- Laws for the code that goes through a plan that was checked: what it has, and the cursor after i edges and after all.
use Prim.Native.Nat.{ℕ, suc, ◌-◌, ◌≤◌, ◌<◌}
use native.Mathlib.Omega.{arith}
use mathlib.Core.Path.{◌≡◌, refl, sym, ap, ◌∙◌, subst}
use mathlib.Core.List.{List, [], ◌∷◌}
use lib.ListN.{length}
use Rattle.graph.specs.declared.Edge.{Edge}
use Rattle.graph.specs.declared.Cursor.{Cursor}
use Rattle.std.specs.Prelude.{Ok}
use Rattle.graph.specs.declared.Size.{Size}
use Rattle.leb128.proofs.Result.{err≢ok, ok_is}
use Rattle.graph.specs.Refusal.{size_of}
use Rattle.graph.specs.Plan.{Decoded, accepted, refused, first_at, next_edge, edges_from, sizes}
use Rattle.graph.specs.Lists.{edges_in}
use Rattle.graph.proofs.Plan.{First, first_of, Accepts, accepts}
use Rattle.plan_check.specs.Past.{HasNext, cursor_past}

-- what has sizes was accepted, with that count of edges
pub sized_by : (d : Decoded) (v m : ℕ) → sizes d ≡ Ok (size_of v m) → (d ≡ accepted v (edges_in d)) × (length (edges_in d) ≡ m)
unfolding sizes edges_in
sized_by (accepted w es) v m h =
    let e = ok_is h in
    let a : w ≡ v = ap (λ (z : Size). z.vertices) e in
    let b : length es ≡ m = ap (λ (z : Size). z.edges) e in
    (ap (λ (x : ℕ). accepted x es) a, b)
sized_by (refused n p) v m h = absurd (err≢ok h)

sub_zero : (m : ℕ) → m - 0 ≡ m
sub_zero m = omega arith

empty : (es : List Edge) → length es ≡ 0 → es ≡ []
empty [] h = refl
empty (e ∷ es) h = absurd (omega arith)

-- i of m edges were read, and the cursor stands before the rest
pub record Stored (v m : ℕ) (s : List ℕ) (i : ℕ) (c : Cursor) : Type 0 where
  pub within : i ≤ m
  pub good : sizes (edges_from v (m - i) s c) ≡ Ok (size_of v (m - i))

module _ (v m : ℕ) (s : List ℕ) (at : ℕ) where
  pub stored_none : sizes (edges_from v m s (first_at at)) ≡ Ok (size_of v m) → Stored v m s 0 (first_at at)
  stored_none h = record { within = omega arith; good = subst (λ (x : ℕ). sizes (edges_from v x s (first_at at)) ≡ Ok (size_of v x)) (sym (sub_zero m)) h }

  -- the next edge is there
  module _ (i : ℕ) (c : Cursor) (more : i < m) (h : Stored v m s i c) where
    left_one : m - i ≡ suc (m - suc i)
    left_one = omega (arith, more)

    abbrev all : List Edge
    all = edges_in (edges_from v (m - i) s c)

    accepts_all : edges_from v (suc (m - suc i)) s c ≡ accepted v all
    accepts_all = ap (λ (x : ℕ). edges_from v x s c) (sym left_one) ∙ (sized_by (edges_from v (m - i) s c) v (m - i) h.good).0

    pub first : First v (m - suc i) s c v all
    first = first_of v (m - suc i) s c v all accepts_all

    pub has_next : HasNext v s c
    has_next = record { edge = first.edge; after = first.after; is = first.is }

    pub cursor_next : cursor_past c (next_edge v s c) ≡ first.after
    unfolding cursor_past
    cursor_next = rw first.is

    count_rest : length first.others ≡ m - suc i
    count_rest =
        let a : length all ≡ m - i = (sized_by (edges_from v (m - i) s c) v (m - i) h.good).1 in
        let b : length all ≡ suc (length first.others) = ap length first.all in
        omega (arith, more)

    pub rest_is : edges_in (edges_from v (m - suc i) s first.after) ≡ first.others
    unfolding edges_in
    rest_is = ap edges_in first.rest

    pub stored_next : Stored v m s (suc i) first.after
    unfolding sizes
    stored_next = record { within = omega arith; good = rw first.rest (ap (λ (x : ℕ). Ok (size_of v x)) count_rest) }

  -- all edges were read
  module _ (i : ℕ) (c : Cursor) (All_there : m ≤ i) (h : Stored v m s i c) where
    pub none_left : edges_in (edges_from v (m - i) s c) ≡ []
    none_left =
        empty (edges_in (edges_from v (m - i) s c)) ((sized_by (edges_from v (m - i) s c) v (m - i) h.good).1 ∙ omega arith)

-- what was checked has V vertices and M edges
pub checked_sizes : (v m : ℕ) (s : List ℕ) (c : Cursor) (x y : ℕ) → sizes (edges_from v m s c) ≡ Ok (size_of x y) → sizes (edges_from v m s c) ≡ Ok (size_of v m)
unfolding sizes
checked_sizes v m s c x y h =
    let d : edges_from v m s c ≡ accepted x (edges_in (edges_from v m s c)) = (sized_by (edges_from v m s c) x y h).0 in
    let a : Accepts v m s c x (edges_in (edges_from v m s c)) = accepts v s m c x (edges_in (edges_from v m s c)) d in
    ap sizes d ∙ ap (λ (z : ℕ). Ok (size_of z (length (edges_in (edges_from v m s c))))) a.same ∙ ap (λ (x : ℕ). Ok (size_of v x)) a.count

-- The permitted edges are those whose class has bit 0, in order; and a walk over them costs the same over all edges.
use mathlib.Core.Path.{◌≡◌, refl, sym, ap, ◌∙◌, subst}
use mathlib.Core.Bool.{Bool, true, false, true≢false, cond}
use mathlib.Core.List.{List, [], ◌∷◌, ◌++◌, Memᴰ}
use Prim.Native.Nat.{ℕ, ◌+◌, ◌*◌, ◌/◌, ◌%◌, ◌^◌, ◌<◌}
use native.Mathlib.Nat.{mod-lt, mod-add-div', one-le-pow, div-eq_of_lt, add-mul-div_right}
use native.Mathlib.Omega.{arith}
use borrow.Author.Tests.{eqb-true, eqb-false, eq-eqb, ne_eqb}
use Rattle.graph.specs.declared.Edge.{Edge}
use Rattle.std.specs.Prelude.{Some}
use Rattle.search.specs.Walk.{Walk, here, along, route_cost}
use Rattle.search.specs.Permitted.{barred_by, permitted, Bit, InOrder, end, kept, dropped, Permits}
use Rattle.search.proofs.Facts.{OneCost}
use Rattle.search.proofs.Route.{walk_cost}

-- ---- one bit

power : (k : ℕ) → 0 < 2 ^ k
power k = one-le-pow k 2 (omega arith)

halves : (q : ℕ) → q ≡ q % 2 + 2 * (q / 2)
halves q = omega arith

-- bit k, as the definition of a barred class reckons it
bit_here : (b k : ℕ) → Bit b k (b / 2 ^ k % 2)
bit_here b k =
    let q : ℕ = b / 2 ^ k in
    record {
      lo = b % 2 ^ k;
      hi = q / 2;
      below = mod-lt b (power k);
      is = sym (mod-add-div' b (2 ^ k)) ∙ ap (λ (x : ℕ). b % 2 ^ k + x * 2 ^ k) (halves q);
    }

bit_there : (b k x : ℕ) → x < 2 → Bit b k x → b / 2 ^ k % 2 ≡ x
bit_there b k x h t =
    let q : b / 2 ^ k ≡ t.lo / 2 ^ k + (x + 2 * t.hi)
    = ap (λ (n : ℕ). n / 2 ^ k) t.is ∙ add-mul-div_right t.lo (x + 2 * t.hi) (power k) in
    omega (arith, q, div-eq_of_lt t.below)

pub clear_bit : (b k : ℕ) → barred_by b k ≡ false → Bit b k 0
unfolding barred_by
clear_bit b k h = subst (λ (x : ℕ). Bit b k x) (let n : b / 2 ^ k % 2 ≡ 1 → ⊥ = eqb-false (b / 2 ^ k % 2) 1 h in omega arith) (bit_here b k)

pub bit_clear : (b k : ℕ) → Bit b k 0 → barred_by b k ≡ false
unfolding barred_by
bit_clear b k t = ne_eqb (b / 2 ^ k % 2) 1 (λ e. omega (arith, bit_there b k 0 (omega arith) t))

pub set_bit : (b k : ℕ) → barred_by b k ≡ true → Bit b k 1
unfolding barred_by
set_bit b k h = subst (λ (x : ℕ). Bit b k x) (eqb-true (b / 2 ^ k % 2) 1 h) (bit_here b k)

pub bit_set : (b k : ℕ) → Bit b k 1 → barred_by b k ≡ true
unfolding barred_by
bit_set b k t = eq-eqb (b / 2 ^ k % 2) 1 (bit_there b k 1 (omega arith) t)

-- ---- the permitted edges

module _ (b : ℕ) where
  pub permitted_append : (ds es : List Edge) → permitted b (ds ++ es) ≡ permitted b ds ++ permitted b es
  unfolding permitted
  permitted_append [] es = refl
  permitted_append (d ∷ ds) es = by (barred_by b d.class) (permitted_append ds es)
    where
      by : (t : Bool) → permitted b (ds ++ es) ≡ permitted b ds ++ permitted b es →
          cond t (permitted b (ds ++ es)) (d ∷ permitted b (ds ++ es)) ≡ cond t (permitted b ds) (d ∷ permitted b ds) ++ permitted b es
      by true e = e
      by false e = ap (λ (l : List Edge). d ∷ l) e

  -- of one edge and those after it
  module _ (d : Edge) (ps es : List Edge) (e : Edge) where
    one_in : (t : Bool) → barred_by b d.class ≡ t → (Memᴰ e ps → Memᴰ e es × (barred_by b e.class ≡ false))
        → Memᴰ e (cond t ps (d ∷ ps)) → Memᴰ e (d ∷ es) × (barred_by b e.class ≡ false)
    one_in true h rest m = (Memᴰ.tail (rest m).0, (rest m).1)
    one_in false h rest (Memᴰ.head q) = (Memᴰ.head q, ap (λ (x : Edge). barred_by b x.class) q ∙ h)
    one_in false h rest (Memᴰ.tail m) = (Memᴰ.tail (rest m).0, (rest m).1)

    one_has : (t : Bool) → barred_by b d.class ≡ t → barred_by b e.class ≡ false → (Memᴰ e es → Memᴰ e ps)
        → Memᴰ e (d ∷ es) → Memᴰ e (cond t ps (d ∷ ps))
    one_has true h f rest (Memᴰ.head q) = absurd (true≢false (sym h ∙ ap (λ (x : Edge). barred_by b x.class) (sym q) ∙ f))
    one_has true h f rest (Memᴰ.tail m) = rest m
    one_has false h f rest (Memᴰ.head q) = Memᴰ.head q
    one_has false h f rest (Memᴰ.tail m) = Memᴰ.tail (rest m)

  permitted_both : (es : List Edge) (e : Edge) → Memᴰ e (permitted b es) → Memᴰ e es × (barred_by b e.class ≡ false)
  unfolding permitted
  permitted_both [] e = elim [ ]
  permitted_both (d ∷ es) e = one_in d (permitted b es) es e (barred_by b d.class) refl (permitted_both es e)

  permitted_has : (es : List Edge) (e : Edge) → barred_by b e.class ≡ false → Memᴰ e es → Memᴰ e (permitted b es)
  unfolding permitted
  permitted_has [] e f = λ m. m
  permitted_has (d ∷ es) e f = one_has d (permitted b es) es e (barred_by b d.class) refl f (permitted_has es e f)

  permitted_order : (es : List Edge) → InOrder (permitted b es) es
  unfolding permitted
  permitted_order [] = end
  permitted_order (e ∷ es) = by (barred_by b e.class) (permitted_order es)
    where
      by : (t : Bool) → InOrder (permitted b es) es → InOrder (cond t (permitted b es) (e ∷ permitted b es)) (e ∷ es)
      by true o = dropped o
      by false o = kept o

  pub permitted_in : (es : List Edge) (e : Edge) → Memᴰ e (permitted b es) → Memᴰ e es
  permitted_in es e m = (permitted_both es e m).0

  pub permits : (es : List Edge) → Permits b es (permitted b es)
  permits es =
      record {
        exact = λ e. (
          λ m. let p = permitted_both es e m in (p.0, clear_bit b e.class p.1),
          λ p. permitted_has es e (bit_clear b e.class p.1) p.0,
        );
        order = permitted_order es;
      }

-- ---- walks

-- a walk over some of the edges is one over all of them
walk_more : {ps es : List Edge} → ((e : Edge) → Memᴰ e ps → Memᴰ e es) → {a b n : ℕ} {r : List ℕ} → Walk ps a b r n → Walk es a b r n
walk_more sub (here a) = here a
walk_more sub (along e m w) = along e (sub e m) (walk_more sub w)

-- at the same cost
pub same_cost : (b : ℕ) (es : List Edge) → OneCost es → {x y n : ℕ} {r : List ℕ} → Walk (permitted b es) x y r n → route_cost es r ≡ Some n
same_cost b es one w = walk_cost es one (walk_more (permitted_in b es) w)

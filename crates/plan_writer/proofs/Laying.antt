-- Laws of laying: bytes one after another, an edge's four numbers, and edges one by one.
use Prim.Native.Nat.{ℕ, suc, ◌+◌, ◌-◌, ◌≤◌}
use native.Mathlib.Omega.{arith}
use mathlib.Core.Path.{◌≡◌, refl, sym, ap, ◌∙◌, subst}
use mathlib.Core.List.{List, [], ◌∷◌, ◌++◌}
use lib.ListN.{length, set, drop, length-append, drop_of_length-le}
use lib.Seq.{sets, length-sets}
use Rattle.leb128.specs.Number.{encode, plan_groups}
use Rattle.graph.specs.declared.Edge.{Edge}
use Rattle.graph.specs.Limits.{max_class}
use Rattle.graph.specs.Lists.{edge_bytes, edges_bytes}
use Rattle.plan_writer.specs.Writing.{LayableEdge, Layable, EdgeFits, EdgesFit}
use Rattle.graph.proofs.Most.{class_byte}

-- ---- bytes laid one after another

pub sets_append : (s : List ℕ) (at : ℕ) (a b : List ℕ) → sets s at (a ++ b) ≡ sets (sets s at a) (at + length a) b
sets_append s at [] b = let n : at ≡ at + 0 = omega arith in ap (λ (k : ℕ). sets s k b) n
sets_append s at (x ∷ a) b =
    let n : suc at + length a ≡ at + length (x ∷ a) = omega arith in
    sets_append (set s at x) (suc at) a b ∙ ap (λ (k : ℕ). sets (sets s at (x ∷ a)) k b) n

pub laid_length : (s : List ℕ) (at : ℕ) (b : List ℕ) → length (sets s at b) ≡ length s
laid_length s at b = length-sets s at b

-- an edge's three numbers and its class, laid one after another
pub edge_laid :
    (s : List ℕ) (at t : ℕ) (e : Edge) {s₁ s₂ s₃ : List ℕ} {a₁ a₂ a₃ : ℕ} → e.class ≤ max_class →
    s₁ ≡ sets s at (encode plan_groups (e.tail - t)) → a₁ ≡ at + length (encode plan_groups (e.tail - t)) →
    s₂ ≡ sets s₁ a₁ (encode plan_groups e.head) → a₂ ≡ a₁ + length (encode plan_groups e.head) →
    s₃ ≡ sets s₂ a₂ (encode plan_groups e.cost) → a₃ ≡ a₂ + length (encode plan_groups e.cost) →
    set s₃ a₃ e.class ≡ sets s at (edge_bytes t e)
unfolding edge_bytes
edge_laid s at t e k m₁ o₁ m₂ o₂ m₃ o₃ = rw (m₃, o₃, m₂, o₂, m₁, o₁, class_byte e.class k) (simp sets_append)

-- ---- all edges laid

-- the loop over the edges: laying the rest from here gives what laying all gives
pub record Laying (es : List Edge) (out₀ : List ℕ) (start : ℕ) (out : List ℕ) (at last i : ℕ) : Type 0 where
  pub layable : Layable last (drop i es)
  pub kept : length out ≡ length out₀
  pub room : at + length (edges_bytes last (drop i es)) ≤ length out₀
  pub same : sets out at (edges_bytes last (drop i es)) ≡ sets out₀ start (edges_bytes 0 es)

pub laying_first : (es : List Edge) (out : List ℕ) (start : ℕ) → EdgesFit out start es → Laying es out start out start 0 0
laying_first es out start f = record { layable = f.layable; kept = refl; room = f.room; same = refl }

module _ {es : List Edge} {out₀ : List ℕ} {start : ℕ} {out : List ℕ} {at last i : ℕ} (y : Laying es out₀ start out at last i) where
  pub laying_end : length es ≤ i → out ≡ sets out₀ start (edges_bytes 0 es)
  unfolding edges_bytes
  laying_end h = ap (λ (ds : List Edge). sets out at (edges_bytes last ds)) (sym (drop_of_length-le es h)) ∙ y.same

  module _ {e : Edge} (g : drop i es ≡ e ∷ drop (i + 1) es) where
    abbrev others : List ℕ
    others = edges_bytes e.tail (drop (i + 1) es)

    next_layable : LayableEdge last e × Layable e.tail (drop (i + 1) es)
    next_layable = subst (Layable last) g y.layable

    next_bytes : edges_bytes last (drop i es) ≡ edge_bytes last e ++ others
    unfolding edges_bytes
    next_bytes = ap (edges_bytes last) g

    next_length : at + length (edge_bytes last e) + length others ≤ length out₀
    next_length = omega (arith, y.room, ap length next_bytes, length-append (edge_bytes last e) others)

    pub edge_fits : EdgeFits out at last e
    edge_fits = record { layable = next_layable.0; room = omega (arith, next_length, y.kept) }

    pub laying_next :
        {out' : List ℕ} {at' : ℕ} → at' ≡ at + length (edge_bytes last e) → out' ≡ sets out at (edge_bytes last e) →
        Laying es out₀ start out' at' e.tail (i + 1)
    laying_next {out'} {at'} a b =
        record {
          layable = next_layable.1;
          kept = ap length b ∙ length-sets out at (edge_bytes last e) ∙ y.kept;
          room = omega (arith, next_length);
          same =
              ap (λ (l : List ℕ). sets l at' others) b
              ∙ ap (λ (k : ℕ). sets (sets out at (edge_bytes last e)) k others) a
              ∙ sym (sets_append out at (edge_bytes last e) others)
              ∙ ap (sets out at) (sym next_bytes)
              ∙ y.same;
        }

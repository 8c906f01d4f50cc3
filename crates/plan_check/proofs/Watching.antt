-- Laws for the code that reads the edges of a plan under a watch: what is read, told from a cursor after i edges.
use Prim.Native.Nat.{ℕ, suc, ◌+◌, ◌-◌, ◌≤◌, ◌<◌}
use native.Mathlib.Numerals.{add-one}
use native.Mathlib.Omega.{arith}
use mathlib.Core.Path.{◌≡◌, refl, sym, ap, ◌∙◌}
use mathlib.Core.List.{List}
use lib.ListN.{length}
use borrow.Author.Tests.{lt-ltb, le-ltb}
use Rattle.std.specs.Prelude.{Ok, Err}
use Rattle.graph.specs.declared.refusal.Cause.TheVariants as cause
use Rattle.graph.specs.declared.refusal.Refusal.{Refusal}
use Rattle.graph.specs.declared.Edge.{Edge}
use Rattle.graph.specs.declared.Cursor.{Cursor}
use Rattle.graph.specs.Refusal.{refusal_of, size_of}
use Rattle.graph.specs.Plan.{Decoded, accepted, refused, first_at, next_edge, before, onward, edges_from, sizes}
use Rattle.leb128.proofs.Result.{err≢ok}
use Rattle.graph.proofs.Plan.{accepts}
use Rattle.plan_check.specs.Watched.{after, watched}

module _ {W : Type 0} (seen : W → ℕ → Edge → W) where
  -- one edge more is seen
  watched_before : (w : W) (i : ℕ) (e : Edge) (d : Decoded) → watched seen w i (before e d) ≡ watched seen (seen w i e) (suc i) d
  unfolding watched before after
  watched_before w i e (accepted v es) = refl
  watched_before w i e (refused n p) = refl

  -- i of m edges were seen, and the cursor stands before the rest
  pub record Seen (v m : ℕ) (s : List ℕ) (at : ℕ) (first w : W) (i : ℕ) (c : Cursor) : Type 0 where
    pub within : i ≤ m
    pub told : watched seen first 0 (edges_from v m s (first_at at)) ≡ watched seen w i (edges_from v (m - i) s c)

  module _ (v m : ℕ) (s : List ℕ) (at : ℕ) (first : W) where
    pub seen_none : (c : Cursor) → c ≡ first_at at → Seen v m s at first first 0 c
    seen_none c q =
        let z : m ≡ m - 0 = omega arith in
        rw q record { within = omega arith; told = ap (λ (x : ℕ). watched seen first 0 (edges_from v x s (first_at at))) z }

    module _ (w : W) (i : ℕ) (c : Cursor) (more : i < m) (k : Seen v m s at first w i c) where
      told_one : watched seen first 0 (edges_from v m s (first_at at)) ≡ watched seen w i (onward (edges_from v (m - suc i) s) (next_edge v s c))
      unfolding edges_from
      told_one = let z : m - i ≡ suc (m - suc i) = omega (arith, more) in k.told ∙ ap (λ (x : ℕ). watched seen w i (edges_from v x s c)) z

      pub seen_next : (e : Edge) (c' : Cursor) (w' : W) → next_edge v s c ≡ Ok (e, c') → w' ≡ seen w i e → Seen v m s at first w' (i + 1) c'
      unfolding onward
      seen_next e c' w' q r =
          rw (add-one i, r)
          record { within = omega (arith, more); told = told_one ∙ rw q (watched_before w i e (edges_from v (m - suc i) s c')) }

      pub seen_refused : (r : Refusal) → next_edge v s c ≡ Err r → Err r ≡ watched seen first 0 (edges_from v m s (first_at at))
      unfolding onward watched
      seen_refused r q = sym (told_one ∙ rw q refl)

    module _ (w : W) (i : ℕ) (c : Cursor) (all : m ≤ i) (k : Seen v m s at first w i c) where
      told_none : watched seen first 0 (edges_from v m s (first_at at)) ≡ watched seen w i (edges_from v 0 s c)
      told_none = let z : m - i ≡ 0 = omega arith in k.told ∙ ap (λ (x : ℕ). watched seen w i (edges_from v x s c)) z

      pub seen_over : c.at < length s → Err (refusal_of cause.LeftOver c.at) ≡ watched seen first 0 (edges_from v m s (first_at at))
      unfolding edges_from watched
      seen_over l = sym (told_none ∙ simp (lt-ltb c.at (length s) l))

      pub seen_all : length s ≤ c.at → Ok w ≡ watched seen first 0 (edges_from v m s (first_at at))
      unfolding edges_from watched after
      seen_all l = sym (told_none ∙ simp (le-ltb c.at (length s) l))

  -- what was read has V and M, or is refused
  module _ (v m : ℕ) (s : List ℕ) (c : Cursor) (w : W) where
    read_by : (x : W) (d : Decoded) → edges_from v m s c ≡ d → watched seen w 0 d ≡ Ok x → Ok (size_of v m) ≡ sizes d
    unfolding watched sizes
    read_by x (accepted u es) e q = let a = accepts v s m c u es e in rw (a.same, a.count)
    read_by x (refused n p) e q = absurd (err≢ok q)

    pub sizes_read : (x : W) → watched seen w 0 (edges_from v m s c) ≡ Ok x → Ok (size_of v m) ≡ sizes (edges_from v m s c)
    sizes_read x q = read_by x (edges_from v m s c) refl q

    refused_by : (r : Refusal) (d : Decoded) → watched seen w 0 d ≡ Err r → Err r ≡ sizes d
    unfolding watched sizes
    refused_by r (accepted u es) q = absurd (err≢ok (sym q))
    refused_by r (refused n p) q = let z : refusal_of n p ≡ r = cc in rw z

    pub sizes_refused : (r : Refusal) → watched seen w 0 (edges_from v m s c) ≡ Err r → Err r ≡ sizes (edges_from v m s c)
    sizes_refused r q = refused_by r (edges_from v m s c) q

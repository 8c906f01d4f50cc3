-- Laws for the code that scans the vertices: bounds of keys, and the scan after s vertices.
use Prim.Native.Nat.{ℕ, ◌+◌, ◌≤◌, ◌<◌}
use mathlib.Core.Path.{◌≡◌, refl, sym, ap, ◌∙◌}
use mathlib.Core.Bool.{Bool, true, false, cond}
use native.Mathlib.Numerals.{add-one}
use native.Mathlib.Omega.{arith}
use lib.Dec.{ltb}
use lib.ListN.{length, get_or, drop, drop_of_length-le}
use lib.Seq.{drop-cons}
use Rattle.std.specs.Prelude.{Some, None}
use Rattle.search.specs.Turn.{Best, key, offered, better, least_from, least}
use Rattle.search.specs.declared.Vertex.{Vertex}
use Rattle.search.specs.Job.{at, fresh}
use Rattle.search.specs.Bounds.{max_key, Within}
use Rattle.workspace.specs.Space.{vertices_seen}
use Rattle.workspace.proofs.Written.{length_vertices_of}
use Rattle.turn.specs.declared.scan.Scan.{Scan}

-- ---- bounds

found≢nobody : {k s : ℕ} → ◌≡◌ {A = Best} None (Some (k, s)) → ⊥
found≢nobody e = let z : ◌≡◌ {A = ℕ} 0 1 = cc in omega arith

module _ (n : ℕ) where
  pub within_nobody : Within n None
  within_nobody =
      record { small = record { key = λ k s e. absurd (found≢nobody e) }; vertex = λ k s e. absurd (found≢nobody e) }

  within_found : (k s : ℕ) → k ≤ max_key → s < n → Within n (Some (k, s))
  within_found k s p q =
      record {
        small = record { key = λ j t e. let i : k ≡ j = grind arith in omega arith };
        vertex = λ j t e. let i : s ≡ t = grind arith in omega arith;
      }

  within_better : (t : Bool) (k s : ℕ) (b : Best) → Within n b → k ≤ max_key → s < n → Within n (better t k s b)
  unfolding better
  within_better false k s b h p q = h
  within_better true k s None h p q = within_found k s p q
  within_better true k s (Some (j, u)) h p q = go (ltb k j)
    where
      go : (x : Bool) → Within n (cond {A = Best} x (Some (k, s)) (Some (j, u)))
      go true = within_found k s p q
      go false = h

  -- one vertex considered
  module _ (o : Bool) (k s : ℕ) (b : Best) (h : Within n b) where
    pub offered_taken : (r : Best) → o ≡ true → k ≤ max_key → s < n → r ≡ better true k s b → (r ≡ better o k s b) × Within n r
    offered_taken r e p q f = (f ∙ ap (λ (t : Bool). better t k s b) (sym e), rw f (within_better true k s b h p q))

    pub offered_left : o ≡ false → (b ≡ better o k s b) × Within n b
    unfolding better
    offered_left e = (rw e, h)

-- what is not open is offered to no heuristic
pub closed_left : (i h : ℕ) (p : Vertex) → p.opened ≡ false → offered i h p ≡ false
unfolding offered
closed_left i h p e = rw e

-- ---- the scan: b is the best of the vertices before s

pub record Scanned (c : Scan) (s : ℕ) (b : Best) : Type 0 where
  pub within : s ≤ c.vertices.size.vertices
  pub rest : least_from c.i c.w1 c.numbers.now s b (drop s (vertices_seen c.vertices)) ≡ least c.i c.w1 c.numbers.now (vertices_seen c.vertices)
  pub fits : Within c.vertices.size.vertices b

module _ (c : Scan) where
  length_seen : length (vertices_seen c.vertices) ≡ c.vertices.size.vertices
  length_seen = length_vertices_of c.vertices.size _

  pub scanned_none : Scanned c 0 None
  unfolding least
  scanned_none = record { within = omega arith; rest = refl; fits = within_nobody c.vertices.size.vertices }

  module _ (s : ℕ) (b : Best) (k : Scanned c s b) where
    -- vertex s and its number
    abbrev x : Vertex
    x = at (vertices_seen c.vertices) s

    abbrev h : ℕ
    h = get_or c.numbers.now s 0

    pub scanned_next :
        (b' : Best) → s < c.vertices.size.vertices → b' ≡ better (offered c.i h x) (key c.w1 h x) s b → Within c.vertices.size.vertices b' →
        Scanned c (s + 1) b'
    unfolding least_from at
    scanned_next b' l e f =
        let n : s < length (vertices_seen c.vertices) = omega (arith, length_seen) in
        record { within = omega arith; rest = rw (e, add-one) (rw (drop-cons (vertices_seen c.vertices) s fresh n) at k.rest); fits = f }

    pub scanned_all :
        c.vertices.size.vertices ≤ s → (b ≡ least c.i c.w1 c.numbers.now (vertices_seen c.vertices)) × Within c.vertices.size.vertices b
    unfolding least_from
    scanned_all l =
        let n : length (vertices_seen c.vertices) ≤ s = omega (arith, length_seen) in
        (rw (drop_of_length-le (vertices_seen c.vertices) n) at k.rest, k.fits)

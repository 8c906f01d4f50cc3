-- Laws for the code that goes through a plan once: edge after edge, with the first that breaks the anchor rule, and what it found.
use Prim.Native.Nat.{ℕ, suc, ◌+◌, ◌<◌}
use native.Mathlib.Omega.{arith}
use mathlib.Core.Path.{◌≡◌, refl, sym, ap, ◌∙◌}
use mathlib.Core.Logic.{◌⊎◌, inl, inr}
use mathlib.Core.Bool.{Bool, true, false, cond, ◌&&◌}
use mathlib.Core.List.{List, [], ◌∷◌}
use lib.ListN.{length}
use lib.Dec.{ltb}
use borrow.Author.Tests.{lt-ltb, le-ltb}
use Rattle.graph.specs.declared.refusal.Cause.TheVariants as cause
use Rattle.graph.specs.declared.Edge.{Edge}
use Rattle.graph.specs.declared.Cursor.{Cursor}
use Rattle.std.specs.Prelude.{Ok, Err}
use Rattle.leb128.proofs.Result.{err≢ok, ok_is}
use Rattle.plan_check.specs.Watched.{after, watched}
use Rattle.admission.specs.declared.edges.FirstBroken.{FirstBroken}
use Rattle.admission.specs.Broken.{breaks, first_broken, broken_after, seen, edges_read}
use Rattle.graph.specs.declared.refusal.Refusal.{Refusal}
use Rattle.graph.specs.Refusal.{refusal_of}
use Rattle.graph.specs.Plan.{Decoded, accepted, refused, edges_from}
use Rattle.graph.specs.Lists.{edges_in}
use Rattle.graph.proofs.Plan.{Accepts, accepts}
use Rattle.graph.proofs.Tests.{and_false}
use Rattle.search.specs.Call.{row, edges_row}

-- ---- edge after edge

module _ (h : List ℕ) where
  -- after edge i, where an edge before it breaks the rule
  stays : (b i : ℕ) (e : Edge) → b < i → broken_after h b i e ≡ b
  unfolding broken_after
  stays b i e l = rw (and_false (breaks h e) (ltb i b) (λ t. le-ltb i b (omega (arith, l))))

  -- what is found from edge number i on: b, if it is before them
  abbrev found : ℕ → ℕ → List Edge → ℕ
  found b i es = cond (ltb b i) b (first_broken h i es)

  -- after edge i of m, where none before it does
  kept_by :
      (m i : ℕ) (e : Edge) (es : List Edge) → i < m → (t : Bool) → breaks h e ≡ t →
      found (cond (t && ltb i m) i m) (suc i) es ≡ first_broken h i (e ∷ es)
  unfolding first_broken
  kept_by m i e es more true q = rw (q, lt-ltb i m more, lt-ltb i (suc i) (omega arith))
  kept_by m i e es more false q = rw (q, le-ltb m (suc i) (omega (arith, more)))

  known_by : (m b i : ℕ) (t : Bool) → (b < i) ⊎ (b ≡ m) → (cond t i b < suc i) ⊎ (cond t i b ≡ m)
  known_by m b i true o = inl (omega arith)
  known_by m b i false (inl l) = inl (omega arith)
  known_by m b i false (inr q) = inr q

  known_after : (m b i : ℕ) (e : Edge) → (b < i) ⊎ (b ≡ m) → (broken_after h b i e < suc i) ⊎ (broken_after h b i e ≡ m)
  unfolding broken_after
  known_after m b i e k = known_by m b i (breaks h e && ltb i b) k

  one_more : (m b i : ℕ) (e : Edge) (es : List Edge) → i < m → (b < i) ⊎ (b ≡ m) → found (broken_after h b i e) (suc i) es ≡ found b i (e ∷ es)
  unfolding broken_after
  one_more m b i e es more (inl l) = rw (stays b i e l, lt-ltb b i l, lt-ltb b (suc i) (omega (arith, l)))
  one_more m b i e es more (inr q) = rw (q, le-ltb m i (omega (arith, more))) (kept_by m i e es more (breaks h e) refl)

-- the watch for the rule, when it has seen the edges from number i on
seen_all :
    (m : ℕ) (w : FirstBroken) (i : ℕ) (es : List Edge) → i + length es ≡ m → (w.broken < i) ⊎ (w.broken ≡ m) →
    (after seen w i es).broken ≡ found w.anchor.now w.broken i es
unfolding after seen first_broken
seen_all m w i [] n (inl l) = rw (lt-ltb w.broken i l)
seen_all m w i [] n (inr q) = let z : i ≡ w.broken = omega arith in rw (le-ltb w.broken i (omega arith)) (sym z)
seen_all m w i (e ∷ es) n k =
    let h = w.anchor.now in
    seen_all m (seen w i e) (suc i) es (omega arith) (known_after h m w.broken i e k) ∙ one_more h m w.broken i e es (omega arith) k

module _ (v m : ℕ) (s : List ℕ) (c : Cursor) (w : FirstBroken) where
  found_by :
      (x : FirstBroken) (d : Decoded) → edges_from v m s c ≡ d → w.broken ≡ m → watched seen w 0 d ≡ Ok x →
      Ok x.broken ≡ edges_read w.anchor.now d
  unfolding watched edges_read
  found_by x (accepted u es) e f q =
      let a : Accepts v m s c u es = accepts v s m c u es e in
      let y : after seen w 0 es ≡ x = ok_is q in
      let z = seen_all m w 0 es (omega (arith, a.count)) (inr f) in
      ap Ok (sym (ap (λ (t : FirstBroken). t.broken) y) ∙ z ∙ rw (le-ltb w.broken 0 (omega arith)))
  found_by x (refused n p) e f q = absurd (err≢ok q)

  -- what the watch found, where it began with none of M edges; or the refusal
  pub rule_read :
      (x : FirstBroken) → w.broken ≡ m → watched seen w 0 (edges_from v m s c) ≡ Ok x → Ok x.broken ≡ edges_read w.anchor.now (edges_from v m s c)
  rule_read x f q = found_by x (edges_from v m s c) refl f q

  refused_of : (r : Refusal) (d : Decoded) → watched seen w 0 d ≡ Err r → Err r ≡ edges_read w.anchor.now d
  unfolding watched edges_read
  refused_of r (accepted u es) q = absurd (err≢ok (sym q))
  refused_of r (refused n p) q = let z : refusal_of n p ≡ r = cc in ap Err (sym z)

  pub rule_refused : (r : Refusal) → watched seen w 0 (edges_from v m s c) ≡ Err r → Err r ≡ edges_read w.anchor.now (edges_from v m s c)
  rule_refused r q = refused_of r (edges_from v m s c) q

-- ---- what was found

-- the row of the rule, from edge number i on, by the first edge that breaks it
abbrev ByFirst : List ℕ → ℕ → List Edge → Type 0
ByFirst h i es = edges_row h i es ≡ row (ltb (first_broken h i es) (i + length es)) cause.AnchorRule (first_broken h i es)

row_by : (h : List ℕ) (i : ℕ) (e : Edge) (es : List Edge) → ByFirst h (suc i) es → (t : Bool) → breaks h e ≡ t → ByFirst h i (e ∷ es)
unfolding edges_row first_broken row breaks
row_by h i e es k true q = rw (q, lt-ltb i (i + suc (length es)) (omega arith))
row_by h i e es k false q = let z : i + suc (length es) ≡ suc i + length es = omega arith in rw (q, z) k

row_broken : (h : List ℕ) (i : ℕ) (es : List Edge) → ByFirst h i es
unfolding edges_row first_broken row breaks
row_broken h i [] = rw (le-ltb i (i + 0) (omega arith))
row_broken h i (e ∷ es) = row_by h i e es (row_broken h (suc i) es) (breaks h e) refl

-- a plan that was read has V vertices and M edges, and its row 13 is told by the first edge that breaks the rule
pub record WholeRead (v m : ℕ) (h : List ℕ) (b : ℕ) (d : Decoded) : Type 0 where
  pub accepts : d ≡ accepted v (edges_in d)
  pub count : length (edges_in d) ≡ m
  pub row_is : edges_row h 0 (edges_in d) ≡ row (ltb b m) cause.AnchorRule b

pub whole_read :
    (v m : ℕ) (s : List ℕ) (c : Cursor) (h : List ℕ) (b : ℕ) (d : Decoded) → edges_from v m s c ≡ d → edges_read h d ≡ Ok b → WholeRead v m h b d
unfolding edges_read edges_in
whole_read v m s c h b (accepted w es) e q =
    let a : Accepts v m s c w es = accepts v s m c w es e in
    let n : 0 + length es ≡ m = omega (arith, a.count) in
    let f : first_broken h 0 es ≡ b = cc in
    record { accepts = rw a.same; count = a.count; row_is = row_broken h 0 es ∙ rw (n, f) }
whole_read v m s c h b (refused n p) e q = absurd (err≢ok q)

pub refused_by : (h : List ℕ) (d : Decoded) (r : Refusal) → edges_read h d ≡ Err r → d ≡ refused r.cause r.at
unfolding edges_read
refused_by h (accepted v es) r q = absurd (err≢ok (sym q))
refused_by h (refused n p) r q =
    let z : refusal_of n p ≡ r = cc in
    ap (λ (e : Refusal). refused e.cause e.at) z

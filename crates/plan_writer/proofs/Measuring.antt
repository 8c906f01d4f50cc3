-- Laws of measuring: an edge, and edges one by one, through their rows, with the bytes counted.
use Prim.Native.Nat.{ℕ, zero, suc, ◌+◌, ◌-◌, ◌*◌, ◌≤◌, ◌<◌}
use native.Mathlib.Omega.{arith}
use native.Mathlib.Numerals.{add-one}
use mathlib.Core.Path.{◌≡◌, refl, sym, ap, ◌∙◌}
use mathlib.Core.Bool.{Bool, true, false, true≢false, cond, ◌&&◌, ◌||◌}
use mathlib.Core.Logic.{⊎_elim}
use mathlib.Core.List.{List, [], ◌∷◌}
use lib.ListN.{length, get_or, drop, length-append, drop_of_length-le}
use lib.Dec.{ltb, eqb}
use borrow.Author.Tests.{ltb-false, lt-ltb, le-ltb, eq-eqb, ne_eqb}
use Rattle.graph.specs.declared.refusal.Cause.{Cause}
use Rattle.leb128.specs.Number.{encode, plan_groups}
use Rattle.leb128.proofs.Laws.{split, encode_few}
use Rattle.graph.specs.declared.Edge.{Edge}
use Rattle.graph.specs.declared.Cursor.{Cursor}
use Rattle.graph.specs.declared.refusal.Refusal.{Refusal}
use Rattle.std.specs.Prelude.{Result, Ok, Err, MatchResult, is_ok}
use Rattle.graph.specs.Refusal.{PlanWritten, refusal_of}
use Rattle.graph.specs.Limits.{max_vertices, max_class}
use Rattle.graph.specs.Rows.{Row, through}
use Rattle.graph.specs.Plan.{past, first_at}
use Rattle.graph.specs.Lists.{fault, edges_of, edge_rows, edges_fault, edge_bytes, edges_bytes}
use Rattle.plan_writer.specs.Writing.{Equal, falls, edge_measured, measured, edges_measured}
use Rattle.graph.proofs.Tests.{or_left}
use Rattle.graph.proofs.Rows.{through_clear}
use Rattle.graph.proofs.OneEdge.{passes_within}
use Rattle.leb128.proofs.Result.{err≢ok, ok_is}
use Rattle.graph.proofs.Most.{edge_length, class_byte, edge_most}

-- ---- how long numbers are

pub number_few : (v : ℕ) → length (encode plan_groups v) ≤ 4
unfolding plan_groups
number_few v = encode_few 4 v

pub class_one : (k : ℕ) → k ≤ max_class → length (encode plan_groups k) ≡ 1
class_one k h = ap length (class_byte k h)

-- the bytes of an edge that has a class, counted
pub edge_size :
    (t : ℕ) (e : Edge) → e.class ≤ max_class →
    length (encode plan_groups (e.tail - t)) + length (encode plan_groups e.head) + length (encode plan_groups e.cost) + 1 ≡ length (edge_bytes t e)
edge_size t e h = omega (arith, edge_length t e, class_one e.class h)

-- ---- row 6

-- two pairs in order, compared as one number
module _ (t h u l : ℕ) (p : h < 4294967296) (q : l < 4294967296) where
  abbrev together : Bool
  together = ltb (4294967296 * t + h) (4294967296 * u + l)

  abbrev apart : Bool
  apart = ltb t u || (eqb t u && ltb h l)

  order_below : t < u → together ≡ apart
  order_below d = rw (lt-ltb t u d) (lt-ltb (4294967296 * t + h) (4294967296 * u + l) (omega arith))

  order_above : u < t → together ≡ apart
  order_above d =
      rw (le-ltb t u (omega arith), ne_eqb t u (λ e. omega arith)) (le-ltb (4294967296 * t + h) (4294967296 * u + l) (omega arith))

  order_same : t ≡ u → together ≡ apart
  order_same d =
      rw (le-ltb t u (omega arith), eq-eqb t u d)
      (⊎_elim
      (λ (k : h < l). lt-ltb (4294967296 * t + h) (4294967296 * u + l) (omega arith) ∙ sym (lt-ltb h l k))
      (λ (k : l ≤ h). le-ltb (4294967296 * t + h) (4294967296 * u + l) (omega arith) ∙ sym (le-ltb h l k))
      (split h l))

  pub order_as_one : together ≡ apart
  order_as_one =
      ⊎_elim order_below (λ (d : u ≤ t). ⊎_elim order_above (λ (g : t ≤ u). order_same (omega arith)) (split u t)) (split t u)

module _ (c : Cursor) (e : Edge) where
  pub falls_as_one :
      e.head < 4294967296 → c.least < 4294967296 →
      ltb (4294967296 * e.tail + e.head) (4294967296 * c.tail + c.least) ≡ falls c e
  unfolding falls
  falls_as_one = order_as_one e.tail e.head c.tail c.least

  pub not_falling : falls c e ≡ false → c.tail ≤ e.tail
  unfolding falls
  not_falling f = ltb-false e.tail c.tail (or_left (ltb e.tail c.tail) _ f)

-- ---- the edges of lists, one by one

-- the edge number i is the first of those from i on
pub edge_next :
    (ts hs cs ks : List ℕ) (i : ℕ) → Equal ts hs cs ks → i < length ts →
    drop i (edges_of ts hs cs ks)
    ≡ record { tail = get_or ts i 0; head = get_or hs i 0; cost = get_or cs i 0; class = get_or ks i 0 } ∷ drop (suc i) (edges_of ts hs cs ks)
unfolding edges_of
edge_next [] hs cs ks i q l = absurd (omega arith)
edge_next (t ∷ ts) [] cs ks i q l = absurd (omega (arith, q.heads))
edge_next (t ∷ ts) (h ∷ hs) [] ks i q l = absurd (omega (arith, q.costs))
edge_next (t ∷ ts) (h ∷ hs) (c ∷ cs) [] i q l = absurd (omega (arith, q.classes))
edge_next (t ∷ ts) (h ∷ hs) (c ∷ cs) (k ∷ ks) zero q l = refl
edge_next (t ∷ ts) (h ∷ hs) (c ∷ cs) (k ∷ ks) (suc i) q l =
    edge_next ts hs cs ks i
    (record { heads = omega (arith, q.heads); costs = omega (arith, q.costs); classes = omega (arith, q.classes) }) (omega arith)

-- ---- all edges measured

cond_map : {A B : Type 0} (f : A → B) (b : Bool) (x y : A) → f (cond b x y) ≡ cond b (f x) (f y)
cond_map f true x y = refl
cond_map f false x y = refl

-- what is done with the outcome of rows is done with each outcome
pub through_map :
    {A B : Type 0} (f : A → B) (rs : List Row) (refuse : Cause → A) (next : A) →
    f (through rs refuse next) ≡ through rs (λ (n : Cause). f (refuse n)) (f next)
unfolding through
through_map f [] refuse next = refl
through_map f (r ∷ rs) refuse next =
    cond_map f r.holds (refuse r.gives) (through rs refuse next)
    ∙ ap (cond r.holds (f (refuse r.gives))) (through_map f rs refuse next)

-- what follows an edge that was measured, or its refusal at number i
unfoldable measured_on : (Cursor → PlanWritten) → ℕ → Result Cursor Cause → PlanWritten
measured_on go i (Ok c) = go c
measured_on go i (Err n) = Err (refusal_of n i)

module _ (v : ℕ) (c : Cursor) (i : ℕ) (e : Edge) (es : List Edge) where
  -- the bytes of an edge and of those after it, counted from an offset
  edges_length : c.at + length (edges_bytes c.tail (e ∷ es)) ≡ c.at + length (edge_bytes c.tail e) + length (edges_bytes e.tail es)
  unfolding edges_bytes
  edges_length = simp length-append (omega arith)

  measured_step : edges_measured v c i (e ∷ es) ≡ measured_on (λ (d : Cursor). edges_measured v d (i + 1) es) i (edge_measured v c e)
  unfolding edges_measured edges_fault edge_measured measured_on measured past
  measured_step =
      through_map (λ f. measured f (c.at + length (edges_bytes c.tail (e ∷ es)))) (edge_rows v c.tail c.least e) (λ n. fault n i) _
      ∙ rw (edges_length, add-one i) refl
      ∙ sym (through_map (measured_on (λ (d : Cursor). edges_measured v d (i + 1) es) i) (edge_rows v c.tail c.least e) (λ n. Err n) _)

  pub measured_next : (c' : Cursor) → edge_measured v c e ≡ Ok c' → edges_measured v c i (e ∷ es) ≡ edges_measured v c' (i + 1) es
  unfolding measured_on
  measured_next c' h = measured_step ∙ ap (measured_on (λ (d : Cursor). edges_measured v d (i + 1) es) i) h

  pub measured_refused : (n : Cause) → edge_measured v c e ≡ Err n → edges_measured v c i (e ∷ es) ≡ Err (refusal_of n i)
  unfolding measured_on
  measured_refused n h = measured_step ∙ ap (measured_on (λ (d : Cursor). edges_measured v d (i + 1) es) i) h

-- a result is Ok after its error was mapped as it was before
pub ok_before :
    (r : Result Cursor Cause) (c : Cursor) (Q : Cause → Type 0) →
    MatchResult r (λ (x : Cursor). ◌≡◌ {A = Result Cursor Refusal} (Ok c) (Ok x)) Q → true ≡ is_ok r → r ≡ Ok c
ok_before (Ok x) c Q h k = ap Ok (sym (ok_is h))
ok_before (Err n) c Q h k = absurd (true≢false k)

-- an edge that passes has nine bytes at most
measured_most : (v : ℕ) (c : Cursor) (e : Edge) (c' : Cursor) → v ≤ max_vertices → edge_measured v c e ≡ Ok c' → c'.at ≤ c.at + 9
unfolding edge_measured past
measured_most v c e c' few h =
    let q = through_clear (λ (x : Result Cursor Cause). x ≡ Ok c') (λ n. Err n) (λ n. err≢ok) (edge_rows v c.tail c.least e) _ h in
    let k : past e (c.at + length (edge_bytes c.tail e)) ≡ c' = ok_is q.1 in
    let w = passes_within v c.tail c.least e q.0 in
    omega (
      arith,
      ap (λ (x : Cursor). x.at) k,
      edge_most c.tail e (omega (arith, w.tail)) (omega (arith, w.head)) w.class,
    )

pub measured_end : (v : ℕ) (c : Cursor) (i : ℕ) → Ok c.at ≡ edges_measured v c i []
unfolding edges_measured measured edges_fault edges_bytes
measured_end v c i = ap Ok (omega arith)

-- the loop over the edges: the cursor before edge i counts the bytes so far, and the rest from there is the whole from the start
pub record Measuring (v : ℕ) (es : List Edge) (start : ℕ) (c : Cursor) (i : ℕ) : Type 0 where
  pub few : c.at ≤ start + 9 * i
  pub same : edges_measured v c i (drop i es) ≡ edges_measured v (first_at start) 0 es

pub measuring_first : (v : ℕ) (es : List Edge) (start : ℕ) (c : Cursor) → c ≡ first_at start → Measuring v es start c 0
measuring_first v es start c e =
    record { few = omega (arith, ap (λ (x : Cursor). x.at) e); same = ap (λ (x : Cursor). edges_measured v x 0 es) e }

module _ {v : ℕ} {es : List Edge} {start : ℕ} {c : Cursor} {i : ℕ} (m : Measuring v es start c i) where
  pub measuring_end : length es ≤ i → Ok c.at ≡ edges_measured v (first_at start) 0 es
  measuring_end h = measured_end v c i ∙ ap (edges_measured v c i) (sym (drop_of_length-le es h)) ∙ m.same

  module _ {e : Edge} (g : drop i es ≡ e ∷ drop (i + 1) es) where
    whole : edges_measured v c i (e ∷ drop (i + 1) es) ≡ edges_measured v (first_at start) 0 es
    whole = ap (edges_measured v c i) (sym g) ∙ m.same

    pub measuring_refused : {n : Cause} → edge_measured v c e ≡ Err n → Err (refusal_of n i) ≡ edges_measured v (first_at start) 0 es
    measuring_refused {n} k = sym (measured_refused v c i e (drop (i + 1) es) n k) ∙ whole

    pub measuring_next : v ≤ max_vertices → {c' : Cursor} → edge_measured v c e ≡ Ok c' → Measuring v es start c' (i + 1)
    measuring_next few {c'} k =
        record {
          few = omega (arith, m.few, measured_most v c e c' few k);
          same = sym (measured_next v c i e (drop (i + 1) es) c' k) ∙ whole;
        }

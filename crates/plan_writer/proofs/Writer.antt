-- Laws of the writer: V, the lists and all edges measured, the whole plan laid, the answer and the output after it.
use Prim.Native.Nat.{ℕ, suc, ◌+◌, ◌^◌, ◌≤◌, ◌<◌}
use native.Mathlib.Omega.{arith}
use mathlib.Core.Path.{◌≡◌, refl, sym, ap, ◌∙◌}
use mathlib.Core.Bool.{Bool, cond}
use mathlib.Core.List.{List, [], ◌∷◌, ◌++◌}
use lib.ListN.{length, length-append, length-map}
use lib.Seq.{sets}
use lib.Dec.{leb}
use borrow.Author.Tests.{le-ltb, le-leb, lt-leb, eq-eqb, ne_eqb}
use Rattle.graph.specs.declared.refusal.Refusal.{Refusal}
use Rattle.graph.specs.declared.refusal.Cause.TheVariants as cause
use Rattle.leb128.specs.Number.{encode, plan_groups}
use Rattle.graph.specs.declared.Edge.{Edge}
use Rattle.std.specs.Prelude.{Ok, Err}
use Rattle.leb128.proofs.Result.{err≢ok, ok_is}
use Rattle.graph.specs.Refusal.{refusal_of}
use Rattle.graph.specs.Limits.{max_vertices, max_edges}
use Rattle.graph.specs.Rows.{through, vertex_count_rows}
use Rattle.graph.specs.Plan.{first_at}
use Rattle.graph.specs.Lists.{over, Fault, none, fault, edges_of, list_rows, edge_rows, edges_fault, write_fault, edges_bytes, bytes_of, written_as, write_answer, out_after}
use Rattle.plan_writer.specs.Writing.{Equal, measured, edges_measured, plan_measured, LayableEdge, Layable, PlanFits}
use Rattle.plan_writer.specs.Listed.{listed, Lends}
use Rattle.plan_writer.specs.declared.plan.Plan.{Plan}
use Rattle.graph.proofs.Rows.{Passes}
use Rattle.graph.proofs.OneEdge.{passes_within, passes_from}
use Rattle.graph.proofs.Plan.{edge_clear}
use Rattle.graph.proofs.OneForm.{columns}
use Rattle.graph.proofs.Over.{sets_front}
use Rattle.plan_writer.proofs.Laying.{sets_append}

-- ---- the lists, and all edges measured

-- four equal lists have as many edges as each is long
pub edges_count : (ts hs cs ks : List ℕ) → Equal ts hs cs ks → length (edges_of ts hs cs ks) ≡ length ts
edges_count ts hs cs ks q =
    sym (length-map (edges_of ts hs cs ks) (λ (e : Edge). e.tail)) ∙ ap length (columns ts hs cs ks q.heads q.costs q.classes).tails_are

pub all_measured :
    (v : ℕ) (es : List Edge) (a b : ℕ) {m : ℕ} → m ≡ length es → a ≡ length (encode plan_groups v) → b ≡ length (encode plan_groups m) →
    edges_measured v (first_at (a + b)) 0 es ≡ plan_measured v es
unfolding plan_measured edges_measured bytes_of
all_measured v es a b e f g =
    ap (measured (edges_fault v 0 0 0 es))
    (omega (
      arith,
      f,
      g,
      ap (λ (k : ℕ). length (encode plan_groups k)) e,
      length-append (encode plan_groups v) (encode plan_groups (length es) ++ edges_bytes 0 es),
      length-append (encode plan_groups (length es)) (edges_bytes 0 es),
    ))

-- ---- the whole plan laid

passed_layable : (v t l : ℕ) (e : Edge) → v ≤ max_vertices → Passes (edge_rows v t l e) → LayableEdge t e
unfolding plan_groups
passed_layable v t l e few p =
    let w = passes_within v t l e p in
    record {
      rises = (passes_from v t l e p).rising;
      tail = omega (arith, w.tail);
      head = omega (arith, w.head);
      cost = omega (arith, w.cost);
      class = w.class;
    }

pub passed_edges : (v : ℕ) → v ≤ max_vertices → (es : List Edge) (t l i : ℕ) → edges_fault v t l i es ≡ none → Layable t es
passed_edges v few [] t l i h = tt
passed_edges v few (e ∷ es) t l i h =
    let q = edge_clear v t l i e es h in
    (passed_layable v t l e few q.0, passed_edges v few es e.tail (e.head + 1) (suc i) q.1)

pub bytes_length :
    (v : ℕ) (es : List Edge) →
    length (bytes_of v es) ≡ length (encode plan_groups v) + length (encode plan_groups (length es)) + length (edges_bytes 0 es)
unfolding bytes_of
bytes_length v es = simp length-append (omega arith)

pub small : (n : ℕ) → n ≤ max_edges → n < 128 ^ plan_groups
unfolding plan_groups
small n h = omega arith

-- V, M and all edges, laid one after another
pub plan_laid :
    {out s₁ s₂ s₃ : List ℕ} {a₁ a₂ v m : ℕ} {es : List Edge} → PlanFits out v es → m ≡ length es →
    s₁ ≡ sets out 0 (encode plan_groups v) → a₁ ≡ 0 + length (encode plan_groups v) →
    s₂ ≡ sets s₁ a₁ (encode plan_groups m) → a₂ ≡ a₁ + length (encode plan_groups m) →
    s₃ ≡ sets s₂ a₂ (edges_bytes 0 es) → s₃ ≡ over (bytes_of v es) out
unfolding bytes_of
plan_laid {out} {v = v} {es = es} f q m₁ o₁ m₂ o₂ m₃ =
    rw (m₃, o₂, m₂, o₁, m₁, q, ← sets_front (bytes_of v es) out f.room) (simp sets_append)

-- ---- the answer, and the output after it

module _ (v : ℕ) (ts hs cs ks out : List ℕ) (p : Plan) (l : Lends v ts hs cs ks p) where
  bytes_are : bytes_of v (edges_of ts hs cs ks) ≡ bytes_of p.vertices (listed p)
  bytes_are = rw (← l.vertices, ← l.tails, ← l.heads, ← l.costs, ← l.classes)

  fault_is : write_fault v ts hs cs ks ≡ edges_fault p.vertices 0 0 0 (listed p)
  unfolding write_fault vertex_count_rows list_rows through
  fault_is =
      rw (← l.vertices, ← l.tails, ← l.heads, ← l.costs, ← l.classes)
      (simp (
        ne_eqb p.vertices 0 (λ e. omega (arith, p.vertices_some)),
        le-ltb max_vertices p.vertices p.vertices_few,
        le-ltb max_edges (length p.tails.now) p.edges_few,
        eq-eqb (length p.heads.now) (length p.tails.now) p.equal.heads,
        eq-eqb (length p.costs.now) (length p.tails.now) p.equal.costs,
        eq-eqb (length p.classes.now) (length p.tails.now) p.equal.classes,
      ))

  measured_fault : (f : Fault) (bytes : List ℕ) (r : Refusal) → measured f (length bytes) ≡ Err r → written_as f bytes out ≡ Err r
  unfolding measured written_as
  measured_fault none bytes r h = absurd (err≢ok (sym h))
  measured_fault (fault k q) bytes r h = h

  pub edge_refused : (r : Refusal) → plan_measured p.vertices (listed p) ≡ Err r → write_answer v ts hs cs ks out ≡ Err r
  unfolding plan_measured write_answer
  edge_refused r h = rw (fault_is, bytes_are) (measured_fault (edges_fault p.vertices 0 0 0 (listed p)) (bytes_of p.vertices (listed p)) r h)

  measured_none : (f : Fault) (n size : ℕ) → measured f n ≡ Ok size → (f ≡ none) × (n ≡ size)
  unfolding measured
  measured_none none n size h = (refl, ok_is h)
  measured_none (fault k p) n size h = absurd (err≢ok h)

  module _ (size : ℕ) (k : plan_measured p.vertices (listed p) ≡ Ok size) where
    counted : (edges_fault p.vertices 0 0 0 (listed p) ≡ none) × (length (bytes_of p.vertices (listed p)) ≡ size)
    unfolding plan_measured
    counted = measured_none (edges_fault p.vertices 0 0 0 (listed p)) (length (bytes_of p.vertices (listed p))) size k

    pub plan_fits : size ≤ length out → PlanFits out p.vertices (listed p)
    plan_fits h = record { passes = counted.0; room = omega (arith, counted.1) }

    -- there is room for the bytes, or not
    answer_is : write_answer v ts hs cs ks out ≡ cond (leb size (length out)) (Ok size) (Err (refusal_of cause.Memory 0))
    unfolding write_answer written_as
    answer_is = rw (fault_is, bytes_are, counted.0, counted.1) refl

    pub answer_count : size ≤ length out → Ok size ≡ write_answer v ts hs cs ks out
    answer_count h = sym (answer_is ∙ ap (λ (b : Bool). cond b (Ok size) (Err (refusal_of cause.Memory 0))) (le-leb size (length out) h))

    pub answer_short : length out < size → Err (refusal_of cause.Memory 0) ≡ write_answer v ts hs cs ks out
    answer_short h = sym (answer_is ∙ ap (λ (b : Bool). cond b (Ok size) (Err (refusal_of cause.Memory 0))) (lt-leb size (length out) h))

    pub out_is : out_after v ts hs cs ks out (Ok size) ≡ over (bytes_of p.vertices (listed p)) out
    unfolding out_after
    out_is = rw bytes_are

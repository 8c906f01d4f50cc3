-- A job is refused for the faults of its plan, and the call of an accepted one for its own rows alone.
use Prim.Native.Nat.{ℕ, suc, ◌+◌, ◌*◌, ◌≤◌}
use native.Mathlib.Omega.{arith}
use mathlib.Core.Path.{◌≡◌, sym, ap, subst, ◌∙◌}
use mathlib.Core.Bool.{Bool, true, false, cond}
use mathlib.Core.List.{List, [], ◌∷◌, append-nil}
use lib.ListN.{length, get_or, take, drop, length-drop}
use lib.Seq.{length-take-le}
use lib.Dec.{ltb}
use borrow.Author.Tests.{le-ltb, eq-eqb}
use Rattle.graph.specs.declared.refusal.Cause.{Cause}
use Rattle.graph.specs.declared.refusal.Cause.TheVariants as cause
use Rattle.graph.specs.declared.Edge.{Edge}
use Rattle.std.specs.Prelude.{Ok, Err}
use Rattle.leb128.proofs.Result.{ok_is}
use Rattle.graph.specs.declared.Size.{Size}
use Rattle.graph.specs.Refusal.{number_of, refusal_of, size_of}
use Rattle.graph.specs.Plan.{Decoded, accepted, refused, decode, sizes}
use Rattle.graph.specs.Lists.{Fault, none, fault}
use Rattle.text.specs.Text.{each, turn_lines, refused_line}
use Rattle.search.specs.Call.{row, first, ends_row, tables_row, schedule_row, memory_row, goal_row, edges_row, fault_in, fault_of}
use Rattle.search.specs.Outcome.{figures, answer_in, answer}
use Rattle.search.specs.Reason.{inquiry_fault_in, inquiry_fault, answered}
use Rattle.job.specs.declared.Front.{Front}
use Rattle.job.specs.Front.{front}
use Rattle.job.specs.Reading.{max_job_bytes, max_job_edges, plan_of, table_count, after_plan, after_front, job_read}
use Rattle.job.specs.Asked.{tables_of, anchor_of, sheets_of, route_size, work_size, wide_size, zeros, call_with, call_asked}
use Rattle.job.specs.Printed.{turns, last_lines, printed, call_text, text_of}
use Rattle.job.specs.Explained.{inquiry_asked, reason_lines, inquiry_text, explained_as}
use Rattle.job.specs.Refusals.{Own, ends, schedule, goal, edge, OwnRefusals, PlanRefusals}
use Rattle.job.proofs.Accepted.{Ready, accepted_ready}

-- ---- rows, downwards

module _ (n : Cause) (p : ℕ) where
  -- a row of its own, then the others
  row_then : (b : Bool) (k : Cause) (rs : List Fault) → Own k → (first rs ≡ fault n p → Own n) → first (row b k 0 ∷ rs) ≡ fault n p → Own n
  unfolding row first
  row_then true k rs o f h = let e : k ≡ n = cc in subst Own e o
  row_then false k rs o f h = f h

  -- a row that does not hold
  none_then : (r : Fault) (rs : List Fault) → r ≡ none → (first rs ≡ fault n p → Own n) → first (r ∷ rs) ≡ fault n p → Own n
  unfolding first
  none_then none rs e f h = f h
  none_then (fault m q) rs e f h = let z : ◌≡◌ {A = ℕ} 0 1 = cc in absurd (omega arith)

  edge_by :
      (h : List ℕ) (i : ℕ) (es : List Edge) → (edges_row h (suc i) es ≡ fault n p → Own n) → (b : Bool) →
      cond b (fault cause.AnchorRule i) (edges_row h (suc i) es) ≡ fault n p → Own n
  edge_by h i es f true e = let k : cause.AnchorRule ≡ n = cc in subst Own k edge
  edge_by h i es f false e = f e

  edges_own : (h : List ℕ) (i : ℕ) (es : List Edge) → edges_row h i es ≡ fault n p → Own n
  unfolding edges_row
  edges_own h i [] e = let z : ◌≡◌ {A = ℕ} 0 1 = cc in absurd (omega arith)
  edges_own h i (e ∷ es) q =
      edge_by h i es (edges_own h (suc i) es) (ltb (e.cost + get_or h e.head 0) (get_or h e.tail 0)) q

  last_by : (r : Fault) → (r ≡ fault n p → Own n) → first (r ∷ []) ≡ fault n p → Own n
  unfolding first
  last_by none f q = f q
  last_by (fault m k) f q = f q

  last_own : (h : List ℕ) (es : List Edge) → first (edges_row h 0 es ∷ []) ≡ fault n p → Own n
  last_own h es = last_by (edges_row h 0 es) (edges_own h 0 es)

-- ---- the rows that cannot hold

module _ (s : List ℕ) (f : Front) (v : ℕ) (r : Ready s f v) where
  sheets_all : length (tables_of s f v) ≡ v + f.guide_count * v
  unfolding table_count
  sheets_all = omega (arith, r.parts.tables)

  tables_clear : tables_row (call_asked s f v) v ≡ none
  unfolding tables_row call_asked call_with anchor_of sheets_of row
  tables_clear =
      simp (
        le-ltb 8 f.guide_count r.parts.fits.guides,
        eq-eqb (length (take v (tables_of s f v))) v (length-take-le v (tables_of s f v) (omega (arith, sheets_all))),
        eq-eqb (length (drop v (tables_of s f v))) (f.guide_count * v) (omega (arith, sheets_all, length-drop v (tables_of s f v))),
      )

  memory_clear : (m : ℕ) → m ≤ max_job_edges → memory_row (call_asked s f v) v m ≡ none
  unfolding memory_row call_asked call_with zeros row
  memory_clear m h =
      simp (
        le-ltb route_size v r.parts.vertices,
        le-ltb work_size (3 * v + 1 + 3 * m) (omega (arith, r.parts.vertices)),
        le-ltb wide_size (2 * v) (omega (arith, r.parts.vertices)),
      )

  own_by : (n : Cause) (p : ℕ) (d : Decoded) → sizes d ≡ Ok (size_of v r.edges) → fault_in (call_asked s f v) d ≡ fault n p → Own n
  unfolding fault_in sizes ends_row schedule_row goal_row
  own_by n p (refused m q) e h = let z : ◌≡◌ {A = ℕ} 0 1 = cc in absurd (omega arith)
  own_by n p (accepted w es) e h =
      let i : size_of w (length es) ≡ size_of v r.edges = ok_is e in
      let same : w ≡ v = ap (λ (z : Size). z.vertices) i in
      let count : length es ≡ r.edges = ap (λ (z : Size). z.edges) i in
      row_then n p _ cause.Ends _ ends
      (none_then n p _ _ (rw same tables_clear)
      (row_then n p _ cause.Schedule _ schedule
      (none_then n p _ _ (rw (same, count) (memory_clear r.edges r.parts.few))
      (row_then n p _ cause.Goal _ goal (last_own n p _ es)))))
      h

pub own_refusals : OwnRefusals
unfolding fault_of call_asked call_with
own_refusals =
    record {
      own = λ s f v n p h q.
          let r : Ready s f v = accepted_ready s f v h in own_by s f v r n p (decode (plan_of s f)) r.sizes q;
    }

-- ---- the plan's own

pub plan_refusals : PlanRefusals
unfolding job_read after_front after_plan
plan_refusals =
    record {
      plan = λ s f n p l h q.
          ap (λ (b : Bool). cond b (Err (refusal_of cause.Job 0)) (after_front s (front s))) (le-ltb max_job_bytes (length s) l) ∙ ap (after_front s) h
          ∙ ap (after_plan s f) q;
    }

-- the call on such a plan is refused in the words of the job
pub plan_text : (s : List ℕ) (f : Front) (v : ℕ) (n : Cause) (p : ℕ) → decode (plan_of s f) ≡ refused n p → text_of s (Err (refusal_of n p)) ≡ text_of s (Ok (f, v))
unfolding text_of call_text printed last_lines turns turn_lines each figures answer answer_in fault_of fault_in call_asked call_with
plan_text s f v n p d = rw d

pub plan_explained : (s : List ℕ) (f : Front) (v : ℕ) (n : Cause) (p : ℕ) → decode (plan_of s f) ≡ refused n p → explained_as s (Err (refusal_of n p)) ≡ explained_as s (Ok (f, v))
unfolding explained_as inquiry_text inquiry_asked answered inquiry_fault inquiry_fault_in answer_in figures last_lines reason_lines call_asked call_with
plan_explained s f v n p d = rw d (sym (append-nil (refused_line (number_of n) p)))

-- Laws for the code that decides a call: its rows downwards.
use Prim.Native.Nat.{ℕ, ◌+◌, ◌*◌}
use mathlib.Core.Path.{◌≡◌, refl, sym, ap, ◌∙◌}
use mathlib.Core.Bool.{not, ◌&&◌, ◌||◌}
use mathlib.Core.List.{List, [], ◌∷◌}
use lib.ListN.{length, get_or}
use lib.Dec.{ltb, eqb}
use Rattle.graph.specs.declared.refusal.Cause.TheVariants as cause
use Rattle.std.specs.Prelude.{Ok, Err}
use Rattle.graph.specs.declared.refusal.Refusal.{Refusal}
use Rattle.graph.specs.declared.Size.{Size}
use Rattle.graph.specs.Plan.{Decoded, accepted, refused, header, after_header, decode, first_at, edges_from}
use Rattle.graph.specs.Lists.{Fault, edges_in}
use Rattle.search.specs.Call.{unfit_schedule, row, first, ends_row, tables_row, schedule_row, memory_row, goal_row, fault_in, fault_of, plan_edges, job_in, job_from, job_of}
use Rattle.admission.specs.declared.Call.{Call as Asked}
use Rattle.admission.specs.declared.Lengths.{Lengths}
use Rattle.admission.specs.Broken.{edges_read}
use Rattle.admission.specs.Verdict.{Verdict, verdict}
use Rattle.admission.specs.Admission.{first_edge_at, verdict_of, taken, Decided}
use Rattle.admission.proofs.AnchorRule.{WholeRead, whole_read, refused_by}

-- ---- the rows of a call whose plan was read

module _
    (q : Asked) (lengths : Lengths) (z : Size) (at : ℕ) (h : header q.bytes.now ≡ Ok (z, at)) (b : ℕ)
    (g : edges_read q.anchor.now (edges_from z.vertices z.edges q.bytes.now (first_at at)) ≡ Ok b) where
  abbrev decoded : Decoded
  decoded = edges_from z.vertices z.edges q.bytes.now (first_at at)

  abbrev read : WholeRead z.vertices z.edges q.anchor.now b decoded
  read = whole_read z.vertices z.edges q.bytes.now (first_at at) q.anchor.now b decoded refl g

  accepts : decode q.bytes.now ≡ accepted z.vertices (edges_in decoded)
  unfolding decode after_header
  accepts = rw h read.accepts

  -- the rows, over the code's tests
  abbrev rows : List Fault
  rows =
      row (not (ltb q.start z.vertices && ltb q.goal z.vertices) || ltb 255 q.barred) cause.Ends 0
      ∷ row (ltb 8 q.guide_count || not (eqb (length q.anchor.now) z.vertices && eqb (length q.guides.now) (q.guide_count * z.vertices))) cause.Tables 0
      ∷ row (unfit_schedule (taken q)) cause.Schedule 0
      ∷ row (ltb lengths.route z.vertices || ltb lengths.work (3 * z.vertices + 1 + 3 * z.edges) || ltb lengths.wide (2 * z.vertices)) cause.Memory 0
      ∷ row (not (eqb (get_or q.anchor.now q.goal 0) 0)) cause.Goal 0
      ∷ row (ltb b z.edges) cause.AnchorRule b
      ∷ []

  pub by_rows : (r : Verdict) → r ≡ verdict z.vertices z.edges at (first rows) → Decided q lengths r
  unfolding verdict_of first_edge_at plan_edges fault_of fault_in job_of job_from job_in ends_row tables_row schedule_row memory_row goal_row edges_in
  by_rows r e =
      record {
        decided =
            λ c k.
            e
            ∙ sym
            (rw (
              ap decode k.bytes_is ∙ accepts,
              ap header k.bytes_is ∙ h,
              k.schedule_is,
              k.start_is,
              k.goal_is,
              k.barred_is,
              k.anchor_is,
              k.sheets_is,
              k.count_is,
              k.route_is,
              k.work_is,
              k.wide_is,
              read.count,
              read.row_is,
            ));
      }

-- ---- a plan that is refused

module _ (q : Asked) (lengths : Lengths) (r : Refusal) where
  plan_refused : decode q.bytes.now ≡ refused r.cause r.at → (x : Verdict) → x ≡ Err r → Decided q lengths x
  unfolding verdict_of verdict fault_of fault_in
  plan_refused d x e = record { decided = λ c k. e ∙ sym (rw (ap decode k.bytes_is ∙ d)) }

  pub header_refused : header q.bytes.now ≡ Err r → (x : Verdict) → x ≡ Err r → Decided q lengths x
  unfolding decode after_header
  header_refused e = plan_refused (rw e)

  pub edges_refused :
      (z : Size) (at : ℕ) → header q.bytes.now ≡ Ok (z, at) →
      edges_read q.anchor.now (edges_from z.vertices z.edges q.bytes.now (first_at at)) ≡ Err r → (x : Verdict) → x ≡ Err r → Decided q lengths x
  unfolding decode after_header
  edges_refused z at e f = plan_refused (rw e (refused_by q.anchor.now _ r f))

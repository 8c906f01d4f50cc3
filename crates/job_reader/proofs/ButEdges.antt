-- What a job read but for its plan's edges is: refused as it is read; or with all its parts, and accepted unless the plan's edges refuse it.
use Prim.Native.Nat.{ℕ}
use mathlib.Core.Path.{◌≡◌, refl, sym, ap, ◌∙◌, subst}
use mathlib.Core.Logic.{◌⊎◌, inl, inr}
use mathlib.Core.Bool.{Bool, true, false, cond}
use mathlib.Core.List.{List}
use lib.ListN.{length}
use lib.Dec.{ltb}
use Rattle.graph.specs.declared.refusal.Cause.{Cause}
use Rattle.graph.specs.declared.refusal.Cause.TheVariants as cause
use Rattle.std.specs.Prelude.{Ok, Err, Some, None}
use Rattle.leb128.proofs.Result.{err≢ok}
use Rattle.graph.specs.declared.refusal.Refusal.{Refusal}
use Rattle.graph.specs.Refusal.{Header, refusal_of, size_of}
use Rattle.job.specs.Front.{FrontRead, front}
use Rattle.job.specs.Reading.{JobRead, max_job_bytes, plan_of, after_sizes, after_plan, after_front, job_read}
use Rattle.graph.specs.Plan.{Decoded, accepted, refused, first_at, edges_from, header, decode, sizes}
use Rattle.graph.specs.Plan as plan
use Rattle.graph.proofs.Plan.{Accepts, accepts}
use Rattle.admission.specs.Broken.{edges_read}
use Rattle.admission.proofs.AnchorRule.{refused_by}
use Rattle.job.specs.declared.Front.{Front}
use Rattle.job.specs.Printed.{text_of, bench_text}
use Rattle.job.specs.Explained.{explained_as, explain_text}
use Rattle.job.proofs.Accepted.{Parts, parts_of}
use Rattle.job.proofs.Refusals.{plan_text, plan_explained}
use Rattle.job_reader.specs.ButEdges.{first_refusal, or_edges, after_counts, but_edges, read_but_edges}

-- the plan's edges refuse the job
pub record EdgesRefuse (s : List ℕ) (f : Front) (r : JobRead) : Type 0 where
  pub number : Cause
  pub position : ℕ
  pub plan : decode (plan_of s f) ≡ refused number position
  pub is : r ≡ Err (refusal_of number position)

-- the parts of a job that was read but for its plan's edges, and what it is read as, r
pub record LeftToCall (s : List ℕ) (f : Front) (v : ℕ) (r : JobRead) : Type 0 where
  pub edges : ℕ
  pub parts : Parts s f v edges
  pub either : (r ≡ Ok (f, v)) ⊎ EdgesRefuse s f r

-- r is the job read but for its plan's edges, and j the whole job read
pub record ReadAs (s : List ℕ) (r j : JobRead) : Type 0 where
  pub refused : (n : Cause) (p : ℕ) → r ≡ Err (refusal_of n p) → j ≡ Err (refusal_of n p)
  pub accepted : (f : Front) (v : ℕ) → r ≡ Ok (f, v) → LeftToCall s f v j

module _ (s : List ℕ) where
  read_as_refused : (r : Refusal) → ReadAs s (Err r) (Err r)
  read_as_refused r = record { refused = λ n p e. e; accepted = λ f v e. absurd (err≢ok e) }

  module _ (g : Front) (whole : front s ≡ Some g) where
    either_by :
        (f f' : Front) (w w' : ℕ) (j : JobRead) → ◌≡◌ {A = JobRead} (Ok (f, w)) (Ok (f', w')) → g ≡ f' → (j ≡ Ok (f, w)) ⊎ EdgesRefuse s g j →
        (j ≡ Ok (f', w')) ⊎ EdgesRefuse s f' j
    either_by f f' w w' j e q (inl a) = inl (a ∙ e)
    either_by f f' w w' j e q (inr b) = inr (subst (λ (x : Front). EdgesRefuse s x j) q b)

    read_as_accepted :
        (v m : ℕ) (f : Front) (w : ℕ) (j : JobRead) → after_sizes s g v m ≡ Ok (f, w) → (j ≡ Ok (f, w)) ⊎ EdgesRefuse s g j → ReadAs s (Ok (f, w)) j
    read_as_accepted v m f w j x o =
        record {
          refused = λ n p e. absurd (err≢ok (sym e));
          accepted = λ f' w' e.
              let k : (g ≡ f') × (v ≡ w') × Parts s f' w' m = parts_of s f' w' g whole v m (x ∙ e) in
              record { edges = m; parts = k.2; either = either_by f f' w w' j e k.0 o };
        }

    -- by V, M and the tables, x, and by the edges, d
    module _ (v m at : ℕ) (h : header (plan_of s g) ≡ Ok (size_of v m, at)) where
      read_as_edges :
          (d : Decoded) (x : JobRead) → edges_from v m (plan_of s g) (first_at at) ≡ d → after_sizes s g v m ≡ x →
          ReadAs s (or_edges d x) (after_plan s g (sizes d))
      unfolding or_edges first_refusal after_plan sizes decode plan.after_header
      read_as_edges (accepted w es) x e k =
          let a : Accepts v m (plan_of s g) (first_at at) w es = accepts v (plan_of s g) m (first_at at) w es e in
          let q : after_sizes s g w (length es) ≡ x = rw (a.same, a.count) k in
          subst (λ (j : JobRead). ReadAs s (or_edges (accepted w es) x) j) (sym q) (pass x k)
        where
          pass : (y : JobRead) → after_sizes s g v m ≡ y → ReadAs s (or_edges (accepted w es) y) y
          pass (Ok (f, u)) l = read_as_accepted v m f u (Ok (f, u)) l (inl refl)
          pass (Err r) l = read_as_refused r
      read_as_edges (refused n p) (Ok (f, u)) e k =
          read_as_accepted v m f u (Err (refusal_of n p)) k (inr (record { number = n; position = p; plan = rw h e; is = refl }))
      read_as_edges (refused n p) (Err r) e k = read_as_refused (refusal_of n p)

    read_as_header : (h : Header) → header (plan_of s g) ≡ h → ReadAs s (after_counts s g (plan_of s g) h) (after_plan s g (sizes (plan.after_header (plan_of s g) h)))
    unfolding after_counts plan.after_header sizes after_plan
    read_as_header (Ok (z, at)) e = read_as_edges z.vertices z.edges at e (edges_from z.vertices z.edges (plan_of s g) (first_at at)) (after_sizes s g z.vertices z.edges) refl refl
    read_as_header (Err r) e = read_as_refused r

  read_as_front : (r : FrontRead) → front s ≡ r → ReadAs s (but_edges s r) (after_front s r)
  unfolding but_edges after_front decode
  read_as_front (Some g) e = read_as_header g e (header (plan_of s g)) refl
  read_as_front None e = read_as_refused (refusal_of cause.Job 0)

  read_as_by : (b : Bool) → ReadAs s (cond b (Err (refusal_of cause.Job 0)) (but_edges s (front s))) (cond b (Err (refusal_of cause.Job 0)) (after_front s (front s)))
  read_as_by true = read_as_refused (refusal_of cause.Job 0)
  read_as_by false = read_as_front (front s) refl

  pub read_as : ReadAs s (read_but_edges s) (job_read s)
  unfolding read_but_edges job_read
  read_as = read_as_by (ltb max_job_bytes (length s))

-- ---- its texts are the whole job's

-- a text of the job read, which is the same for a plan that is refused and for the call on it
module _ (s : List ℕ) (text : JobRead → List ℕ)
    (same : (f : Front) (v : ℕ) (n : Cause) (p : ℕ) → decode (plan_of s f) ≡ refused n p → text (Err (refusal_of n p)) ≡ text (Ok (f, v))) where
  asked_text : (f : Front) (v : ℕ) → (job_read s ≡ Ok (f, v)) ⊎ EdgesRefuse s f (job_read s) → text (job_read s) ≡ text (Ok (f, v))
  asked_text f v (inl e) = ap text e
  asked_text f v (inr e) = ap text e.is ∙ same f v e.number e.position e.plan

  text_by : (r : JobRead) → read_but_edges s ≡ r → text (job_read s) ≡ text r
  text_by (Ok (f, v)) e = asked_text f v ((read_as s).accepted f v e).either
  text_by (Err r) e = ap text ((read_as s).refused r.cause r.at e)

  either_text : text (job_read s) ≡ text (read_but_edges s)
  either_text = text_by (read_but_edges s) refl

pub same_text : (s : List ℕ) → bench_text s ≡ text_of s (read_but_edges s)
unfolding bench_text
same_text s = either_text s (text_of s) (plan_text s)

pub same_explained : (s : List ℕ) → explain_text s ≡ explained_as s (read_but_edges s)
unfolding explain_text
same_explained s = either_text s (explained_as s) (plan_explained s)

-- ---- the plan's edges, read or refused

module _ (h : List ℕ) (d : Decoded) (failed : Refusal) where
  pub first_passed : (b : ℕ) → edges_read h d ≡ Ok b → failed ≡ first_refusal d failed
  unfolding first_refusal edges_read
  first_passed b e = by d e
    where
      by : (x : Decoded) → edges_read h x ≡ Ok b → failed ≡ first_refusal x failed
      by (accepted v es) q = refl
      by (refused n p) q = absurd (err≢ok q)

  pub first_refused : (r : Refusal) → edges_read h d ≡ Err r → r ≡ first_refusal d failed
  unfolding first_refusal
  first_refused r e = rw (refused_by h d r e) refl

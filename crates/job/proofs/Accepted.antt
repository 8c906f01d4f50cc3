-- What is known of the front of a job that was read whole, and of a job that was accepted.
use Prim.Native.Nat.{ℕ, ◌+◌, ◌*◌, ◌≤◌}
use native.Mathlib.Omega.{arith}
use mathlib.Core.Path.{◌≡◌, refl, sym, ap}
use mathlib.Core.Bool.{Bool, true, false, cond, ◌||◌}
use mathlib.Core.List.{List}
use lib.ListN.{length}
use lib.Dec.{ltb}
use borrow.Author.Tests.{ltb-false}
use Rattle.graph.specs.declared.refusal.Cause.{Cause}
use Rattle.graph.specs.declared.refusal.Cause.TheVariants as cause
use Rattle.leb128.specs.Number.{read, job_groups}
use Rattle.std.specs.Prelude.{Ok, Err, Some, None}
use Rattle.leb128.proofs.Result.{err≢ok, ok_parts}
use Rattle.graph.specs.Refusal.{PlanRead, refusal_of, size_of}
use Rattle.job.specs.Front.{FrontRead, max_job_rounds, max_job_guides, rounds, ends, front}
use Rattle.job.specs.Numbers.{NumbersRead, end_of}
use Rattle.graph.specs.Plan.{decode, sizes}
use Rattle.graph.proofs.Tests.{or_left, or_right}
use Rattle.job.specs.declared.Ends.{Ends}
use Rattle.job.specs.declared.Front.{Front}
use Rattle.job.specs.Reading.{JobRead, max_job_bytes, max_job_vertices, max_job_edges, plan_of, table_count, after_tables, after_sizes, after_plan, after_front, job_read}
use Rattle.job.specs.Asked.{factors_of, tables_of}
use Rattle.job.proofs.Values.{length_values}
use Rattle.job.proofs.Following.{whole_following, whole_past, whole_cond}

-- ---- the front

-- rounds and guides are few, and every factor is there
pub record Rounds (s : List ℕ) (plan end : ℕ) (f : Front) : Type 0 where
  pub at : f.plan_at ≡ plan
  pub to : f.plan_end ≡ end
  pub rounds : f.round_count ≤ max_job_rounds
  pub guides : f.guide_count ≤ max_job_guides
  pub schedule : length (factors_of s f) ≡ 2 * f.round_count

module _ (s : List ℕ) (plan end : ℕ) (f : Front) where
  whole_as :
      (x : Ends) (r at g tables next : ℕ) → ltb max_job_rounds r ≡ false → end_of (2 * r) s at ≡ Some next → ltb max_job_guides g ≡ false →
      Some (record { plan_at = plan; plan_end = end; ends = x; round_count = r; factors_at = at; guide_count = g; tables_at = tables }) ≡ Some f →
      Rounds s plan end f
  unfolding factors_of
  whole_as x r at g tables next few all less h =
      let e : record { plan_at = plan; plan_end = end; ends = x; round_count = r; factors_at = at; guide_count = g; tables_at = tables } ≡ f = cc in
      let er : r ≡ f.round_count = ap (λ (x : Front). x.round_count) e in
      let eg : g ≡ f.guide_count = ap (λ (x : Front). x.guide_count) e in
      let ea : at ≡ f.factors_at = ap (λ (x : Front). x.factors_at) e in
      record {
        at = sym (ap (λ (x : Front). x.plan_at) e);
        to = sym (ap (λ (x : Front). x.plan_end) e);
        rounds = omega (arith, ltb-false max_job_rounds r few);
        guides = omega (arith, ltb-false max_job_guides g less);
        schedule = rw (sym er, sym ea) (length_values s next (2 * r) at all);
      }

  rounds_whole : (x : Ends) (at : ℕ) → rounds s plan end x at ≡ Some f → Rounds s plan end f
  unfolding rounds
  rounds_whole x at h =
      whole_following f (read job_groups s at) _ h
      (λ r factors _ h₁. whole_cond f (ltb max_job_rounds r) _ h₁
      (λ few h₂. whole_past f (end_of (2 * r) s factors) _ h₂
      (λ next all h₃. whole_following f (read job_groups s next) _ h₃
      (λ g tables _ h₄. whole_cond f (ltb max_job_guides g) _ h₄
      (λ less h₅. whole_as x r factors g tables next few all less h₅)))))

  ends_whole : ends s plan end ≡ Some f → Rounds s plan end f
  unfolding ends
  ends_whole h =
      whole_following f (read job_groups s end) _ h
      (λ start goal_at _ h₁. whole_following f (read job_groups s goal_at) _ h₁
      (λ goal barred_at _ h₂. whole_following f (read job_groups s barred_at) _ h₂
      (λ barred budget_at _ h₃. whole_following f (read job_groups s budget_at) _ h₃
      (λ budget at _ h₄. rounds_whole _ at h₄))))

-- the plan is a part of the job's bytes
pub record Fits (s : List ℕ) (f : Front) : Type 0 where
  pub plan : f.plan_at ≤ f.plan_end
  pub end : f.plan_end ≤ length s
  pub rounds : f.round_count ≤ max_job_rounds
  pub guides : f.guide_count ≤ max_job_guides
  pub schedule : length (factors_of s f) ≡ 2 * f.round_count

pub front_fits : (s : List ℕ) (f : Front) → front s ≡ Some f → Fits s f
unfolding front
front_fits s f h =
    whole_following f (read job_groups s 0) _ h
    (λ size plan _ h₁. whole_cond f (ltb (length s) (plan + size)) _ h₁
    (λ there h₂.
    let r : Rounds s plan (plan + size) f = ends_whole s plan (plan + size) f h₂ in
    record {
      plan = omega arith;
      end = omega (arith, ltb-false (length s) (plan + size) there);
      rounds = r.rounds;
      guides = r.guides;
      schedule = r.schedule;
    }))

-- ---- the job

-- with V vertices and M edges it fits the limits, and every table is there
pub record Parts (s : List ℕ) (f : Front) (v m : ℕ) : Type 0 where
  pub fits : Fits s f
  pub vertices : v ≤ max_job_vertices
  pub few : m ≤ max_job_edges
  pub tables : length (tables_of s f v) ≡ table_count f v

-- and its plan passes, with V and M
pub record Ready (s : List ℕ) (f : Front) (v : ℕ) : Type 0 where
  pub edges : ℕ
  pub sizes : sizes (decode (plan_of s f)) ≡ Ok (size_of v edges)
  pub parts : Parts s f v edges

module _ (s : List ℕ) (f : Front) (v : ℕ) where
  module _ (g : Front) where
    same_by : (w : ℕ) (b : Bool) → cond {A = JobRead} b (Err (refusal_of cause.Job 0)) (Ok (g, w)) ≡ Ok (f, v) → (g ≡ f) × (w ≡ v)
    same_by w true h = absurd (err≢ok h)
    same_by w false h = ok_parts h

    -- the tables are there
    tables_by : (w : ℕ) (r : NumbersRead) → after_tables s g w r ≡ Ok (f, v) → (g ≡ f) × (w ≡ v) × ((end : ℕ) × (r ≡ Some end))
    unfolding after_tables
    tables_by w (Some end) h = let e : (g ≡ f) × (w ≡ v) = same_by w (ltb end (length s)) h in (e.0, e.1, (end, refl))
    tables_by w None h = absurd (err≢ok h)

    module _ (whole : front s ≡ Some g) where
      -- V and M are small
      sizes_by :
          (w m : ℕ) (b : Bool) → (ltb max_job_vertices w || ltb max_job_edges m) ≡ b →
          cond {A = JobRead} b (Err (refusal_of cause.Job 0)) (after_tables s g w (end_of (table_count g w) s g.tables_at)) ≡ Ok (f, v) → (g ≡ f) × (w ≡ v) × Parts s f v m
      unfolding tables_of
      sizes_by w m true o h = absurd (err≢ok h)
      sizes_by w m false o h =
          let e = tables_by w (end_of (table_count g w) s g.tables_at) h in (
            e.0,
            e.1,
            rw (sym e.0, sym e.1)
                (record {
                  fits = front_fits s g whole;
                  vertices = ltb-false max_job_vertices w (or_left (ltb max_job_vertices w) (ltb max_job_edges m) o);
                  few = ltb-false max_job_edges m (or_right (ltb max_job_vertices w) (ltb max_job_edges m) o);
                  tables = length_values s e.2.0 (table_count g w) g.tables_at e.2.1;
                }),
          )

      pub parts_of : (w m : ℕ) → after_sizes s g w m ≡ Ok (f, v) → (g ≡ f) × (w ≡ v) × Parts s f v m
      unfolding after_sizes
      parts_of w m h = sizes_by w m (ltb max_job_vertices w || ltb max_job_edges m) refl h

      plan_by : (p : PlanRead) → sizes (decode (plan_of s g)) ≡ p → after_plan s g p ≡ Ok (f, v) → Ready s f v
      unfolding after_plan
      plan_by (Ok size) z h =
          let e = parts_of size.vertices size.edges h in
          record { edges = size.edges; sizes = rw (sym e.0, sym e.1) z; parts = e.2 }
      plan_by (Err e) z h = absurd (err≢ok h)

  front_by : (r : FrontRead) → front s ≡ r → after_front s r ≡ Ok (f, v) → Ready s f v
  unfolding after_front
  front_by (Some g) e h = plan_by g e (sizes (decode (plan_of s g))) refl h
  front_by None e h = absurd (err≢ok h)

  size_by : (b : Bool) → cond {A = JobRead} b (Err (refusal_of cause.Job 0)) (after_front s (front s)) ≡ Ok (f, v) → Ready s f v
  size_by true h = absurd (err≢ok h)
  size_by false h = front_by (front s) refl h

  pub accepted_ready : job_read s ≡ Ok (f, v) → Ready s f v
  unfolding job_read
  accepted_ready h = size_by (ltb max_job_bytes (length s)) h

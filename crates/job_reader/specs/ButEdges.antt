-- A bench job read but for its plan's edges, which the call checks wherever all else passes: for the contract of `read_but_edges`, nothing that a reader must believe.
use Rattle.graph.specs.declared.refusal.Cause.TheVariants as cause
use Rattle.std.specs.Prelude.{ℕ, cond, List, length, ltb, Ok, Err, Some, None}
use Rattle.graph.specs.declared.refusal.Refusal.{Refusal}
use Rattle.graph.specs.Refusal.{Header, refusal_of}
use Rattle.job.specs.Front.{FrontRead, front}
use Rattle.job.specs.Reading.{JobRead, max_job_bytes, plan_of, after_sizes}
use Rattle.graph.specs.Plan.{Decoded, accepted, refused, first_at, edges_from, header}
use Rattle.job.specs.declared.Front.{Front}

-- what fails after the plan counts only where the plan's edges pass
unfoldable pub first_refusal : Decoded → Refusal → Refusal
first_refusal (accepted v es) e = e
first_refusal (refused n p) e = refusal_of n p

-- what fails after the edges; a job that passes there is accepted, its edges unseen
unfoldable pub or_edges : Decoded → JobRead → JobRead
or_edges d (Ok (f, v)) = Ok (f, v)
or_edges d (Err e) = Err (first_refusal d e)

-- by V and M of the plan
unfoldable pub after_counts : List ℕ → Front → List ℕ → Header → JobRead
after_counts s f plan (Ok (z, at)) = or_edges (edges_from z.vertices z.edges plan (first_at at)) (after_sizes s f z.vertices z.edges)
after_counts s f plan (Err e) = Err e

-- by the front
unfoldable pub but_edges : List ℕ → FrontRead → JobRead
but_edges s None = Err (refusal_of cause.Job 0)
but_edges s (Some f) = after_counts s f (plan_of s f) (header (plan_of s f))

-- the whole job
unfoldable pub read_but_edges : List ℕ → JobRead
read_but_edges s = cond (ltb max_job_bytes (length s)) (Err (refusal_of cause.Job 0)) (but_edges s (front s))

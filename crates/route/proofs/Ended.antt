-- A round's end: what `keep` gives is the incumbent's cost and route memory that the search's definitions give.
use mathlib.Core.Path.{◌≡◌, refl, sym, ap, ◌∙◌}
use mathlib.Core.Bool.{Bool, true, false, cond, ◌||◌}
use mathlib.Core.List.{List, []}
use Prim.Native.Nat.{ℕ, suc, ◌≤◌, ◌<◌}
use native.Mathlib.Omega.{arith}
use lib.Dec.{eqb, ltb}
use lib.ListN.{length, drop}
use lib.Seq.{drop_at}
use borrow.Author.Tests.{eq-eqb, ne_eqb}
use Rattle.graph.specs.Lists.{over}
use Rattle.search.specs.declared.Progress.{Progress}
use Rattle.std.specs.Prelude.{Some, None}
use Rattle.search.specs.Walk.{RouteCost, route_cost}
use Rattle.search.specs.Job.{State, Job, at}
use Rattle.search.specs.Rounds.{ended, trace, traced, improves, cost_or, end_round}
use Rattle.search.specs.Outcome.{route_words, route_after}
use Rattle.search.proofs.Tools.{same_cases}
use Rattle.search.proofs.Words.{route_length}
use Rattle.graph.specs.declared.Size.{Size}
use Rattle.workspace.specs.Layout.{Words, vertices_of, pred_of, graph_of}
use Rattle.workspace.proofs.Written.{pred_is}
use Rattle.route.specs.Trace.{traced_in, traced_cost}
use Rattle.route.specs.Kept.{kept_cost, kept_route}
use Rattle.route.proofs.Traces.{trace_same}
use Rattle.route.proofs.Laid.{traced_in_most}

-- ---- whether it becomes the incumbent

pub broken_not : (c : RouteCost) (p : Progress) → c ≡ None → improves c p ≡ false
unfolding improves
broken_not c p e = rw e

module _ (v : ℕ) (c : RouteCost) (r : List ℕ) (p : Progress) (old : List ℕ) where
  -- the incumbent's cost, and route memory
  abbrev Keeps : ℕ → List ℕ → Type 0
  Keeps n l = (n ≡ kept_cost c p) × (l ≡ kept_route v c r p old)

  pub keeps_new : (k : ℕ) → c ≡ Some k → improves (Some k) p ≡ true → (l : List ℕ) → l ≡ over (route_words v r) old → Keeps k l
  unfolding kept_cost kept_route cost_or
  keeps_new k e f l g = (rw (e, f), rw (e, f) g)

  pub keeps_old : improves c p ≡ false → Keeps p.cost old
  unfolding kept_cost kept_route
  keeps_old f = (rw f, rw f)

-- ---- words laid over words

-- words over others of the same number
over_over : (new older old : List ℕ) → length new ≡ length older → over new (over older old) ≡ over new old
unfolding over
over_over new older old e = rw (drop_at older (drop (length older) old) (length new) (sym e), e)

-- ---- the round's end, by the search's definitions

module _ (job : Job) (s : State) where
  abbrev cost : RouteCost
  cost = route_cost job.edges (traced job s)

  end_cost : kept_cost cost s.progress ≡ (end_round job s).progress.cost
  unfolding kept_cost end_round ended
  end_cost = refl

  module _ (old : List ℕ) (k : ℕ) (is : cost ≡ Some k) (short : 0 < s.progress.rounds → length s.incumbent ≤ job.size)
      (small : length (traced job s) ≤ job.size) where
    -- a new route over what there is
    new_over : over (route_words job.size (traced job s)) (route_after job s old) ≡ over (route_words job.size (traced job s)) old
    unfolding route_after
    new_over =
        same_cases s.progress.rounds 0
        (λ e. rw (eq-eqb s.progress.rounds 0 e))
        (λ e.
        rw (ne_eqb s.progress.rounds 0 e)
        (over_over (route_words job.size (traced job s)) (route_words job.size s.incumbent) old
        (omega (arith, route_length job.size (traced job s) small, route_length job.size s.incumbent (short (omega arith))))))

    -- a dearer route is not the first
    not_first : improves (Some k) s.progress ≡ false → eqb s.progress.rounds 0 ≡ false
    unfolding improves
    not_first f = go (eqb s.progress.rounds 0) f
      where
        go : (b : Bool) → b || ltb k s.progress.cost ≡ false → b ≡ false
        go true e = e
        go false e = refl

    old_over : improves (Some k) s.progress ≡ false → route_after job s old ≡ over (route_words job.size s.incumbent) old
    unfolding route_after
    old_over f = rw (not_first f)

    by_test : (t : Bool) → improves (Some k) s.progress ≡ t
        → cond t (over (route_words job.size (traced job s)) (route_after job s old)) (route_after job s old)
        ≡ over (route_words job.size (cond t (traced job s) s.incumbent)) old
    by_test true f = new_over
    by_test false f = old_over f

    end_route : kept_route job.size cost (traced job s) s.progress (route_after job s old) ≡ route_after job (end_round job s) old
    unfolding kept_route end_round ended route_after
    end_route = rw (is, ne_eqb (suc s.progress.rounds) 0 (λ e. omega arith)) (by_test (improves (Some k) s.progress) refl)

-- ---- where memory holds the state, and a graph over which the traced route costs what it costs over the job's edges

-- the words of predecessors are traced as those of the vertices
pub traced_in_is :
    (z : Size) (m : Words) (start goal : ℕ) →
    traced_in z m.work start goal ≡ trace (λ x. (at (vertices_of z m) x).pred) start z.vertices goal []
unfolding traced_in
traced_in_is z m start goal =
    trace_same (pred_of z m.work) (λ x. (at (vertices_of z m) x).pred) (pred_is z m) start z.vertices goal []

module _ (z : Size) (m : Words) (job : Job) (s : State) (size : z.vertices ≡ job.size)
    (same : route_cost (graph_of z m.work) (traced job s) ≡ route_cost job.edges (traced job s)) (vertices : vertices_of z m ≡ s.vertices) where
  pub traced_is : traced_in z m.work job.start job.goal ≡ traced job s
  unfolding traced
  traced_is = traced_in_is z m job.start job.goal ∙ rw (vertices, size)

  pub cost_is : traced_cost z m.work job.start job.goal ≡ route_cost job.edges (traced job s)
  unfolding traced_cost
  cost_is = rw traced_is same

  -- what `keep` answers is the incumbent's cost after the round
  pub ends_cost : (n : ℕ) → n ≡ kept_cost (traced_cost z m.work job.start job.goal) s.progress → n ≡ (end_round job s).progress.cost
  ends_cost n e = e ∙ ap (λ (c : RouteCost). kept_cost c s.progress) cost_is ∙ end_cost job s

  -- route memory after `keep`, where `old` was lent: the traced route is a walk, and the incumbent has at most V vertices
  pub ends_route :
      (old entry exit : List ℕ) (k : ℕ) → route_cost job.edges (traced job s) ≡ Some k →
      (0 < s.progress.rounds → length s.incumbent ≤ job.size) → entry ≡ route_after job s old →
      exit ≡ kept_route z.vertices (traced_cost z m.work job.start job.goal) (traced_in z m.work job.start job.goal) s.progress entry →
      exit ≡ route_after job (end_round job s) old
  ends_route old entry exit k is short e f =
      let l : length (traced job s) ≤ job.size = omega (arith, traced_in_most z m.work job.start job.goal, ap length traced_is) in
      rw (cost_is, traced_is, size, e) at f ∙ end_route job s old k is short l

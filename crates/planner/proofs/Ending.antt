-- A round's end, as memory carries it: the kept route, the vertices, and the record.
use Prim.Native.Nat.{ℕ, suc, ◌-◌, ◌<◌}
use native.Mathlib.Omega.{arith}
use mathlib.Core.Path.{◌≡◌, refl, sym, ap, ◌∙◌, subst}
use mathlib.Core.Bool.{Bool, true, false, cond}
use mathlib.Core.List.{List, map}
use lib.ListN.{length, length-map}
use lib.Dec.{ltb}
use borrow.Author.Tests.{lt-ltb, le-ltb}
use Rattle.graph.specs.declared.Edge.{Edge}
use Rattle.search.specs.declared.Vertex.{Vertex}
use Rattle.search.specs.declared.Progress.{Progress}
use Rattle.search.specs.declared.Step.TheVariants.{Finished}
use Rattle.search.specs.Walk.{route_cost}
use Rattle.search.specs.Job.{State, Job, guides}
use Rattle.search.specs.Rounds.{ended, step, reopened, traced, end_round}
use Rattle.search.specs.Call.{Call, plan_edges, job_of}
use Rattle.search.specs.Outcome.{route_after}
use Rattle.search.proofs.Tools.{le_cases}
use Rattle.search.proofs.Admitted.{admitted, plan_cost, rounds_few}
use Rattle.search.proofs.Standing.{Over, round_over}
use Rattle.admission.specs.declared.Call.{Call as Asked}
use Rattle.graph.specs.declared.Size.{Size}
use Rattle.workspace.specs.declared.Graph.{Graph}
use Rattle.workspace.specs.declared.Workspace.{Workspace}
use Rattle.workspace.specs.Layout.{Becomes}
use Rattle.workspace.specs.Space.{space_words, space_vertices, space_edges, Stores}
use Rattle.workspace.specs.Holds.{Holds}
use Rattle.workspace.proofs.Holding.{holds_vertices, holds_graph, holds_written}
use Rattle.route.specs.Trace.{traced_in, traced_cost}
use Rattle.route.specs.Kept.{kept_cost, kept_route}
use Rattle.route.proofs.Ended.{ends_cost, ends_route}
use Rattle.planner.specs.Carried.{Asking, words_of, CarriesIn}
use Rattle.planner.proofs.Jobs.{first_few, job_guides, job_start, job_goal}

-- another round follows, if more than one was left
next_left : (r n : ℕ) → ltb 1 (n - r) ≡ ltb (suc r) n
next_left r n =
    le_cases n (suc r)
    (λ h. le-ltb 1 (n - r) (omega arith) ∙ sym (le-ltb (suc r) n h))
    (λ h. lt-ltb 1 (n - r) (omega arith) ∙ sym (lt-ltb (suc r) n h))

of_both : {A : Type 0} {y y' : Size} {w w' : List ℕ} → y ≡ y' → w ≡ w' → (f : Size → List ℕ → A) → f y w ≡ f y' w'
of_both e g f = rw (e, g) refl

length_either : (t : Bool) (st : List Vertex) → length (cond t (map reopened st) st) ≡ length st
length_either true st = length-map st reopened
length_either false st = refl

module _ (c : Call) (q : Asked) (space : Workspace) (route : List ℕ) (s : State) (left : ℕ) (p : Progress) (a : Asking c space.size q)
    (k : CarriesIn c s p space route) (l : left ≡ length (job_of c).schedule - s.progress.rounds) (more : s.progress.rounds < length (job_of c).schedule)
    (fin : step (job_of c) s ≡ Finished) where
  abbrev job : Job
  job = job_of c

  abbrev z : Size
  z = space.size

  done : Over job (admitted c a.fits.admitted) s
  done = round_over job (admitted c a.fits.admitted) s k.ok more fin

  -- what memory is of the state
  vertices_is : space_vertices space ≡ s.vertices
  vertices_is = holds_vertices z (plan_edges c) s.vertices (words_of c.memory) (space_words space) k.words

  -- the traced route costs over the whole plan what it costs over the permitted edges
  plan_same : route_cost (space_edges space) (traced job s) ≡ route_cost job.edges (traced job s)
  plan_same =
      ap (λ (es : List Edge). route_cost es (traced job s)) (holds_graph z (plan_edges c) s.vertices (words_of c.memory) (space_words space) k.words)
      ∙ plan_cost c a.fits.admitted done.walk.walk
      ∙ sym done.walk.is

  -- whether another round follows
  abbrev next : Bool
  next = ltb (suc s.progress.rounds) (length job.schedule)

  next_is : ltb 1 left ≡ next
  next_is = ap (ltb 1) l ∙ next_left s.progress.rounds (length job.schedule)

  words_end :
      (space' : Workspace) → Stores (cond (ltb 1 left) (map reopened (space_vertices space)) (space_vertices space)) space space' →
      Holds space'.size (plan_edges c) (cond next (map reopened s.vertices) s.vertices) (words_of c.memory) (space_words space')
  words_end space' b =
      rw b.lent.size_is
      (holds_written z (plan_edges c) s.vertices (words_of c.memory) (space_words space) k.words (cond next (map reopened s.vertices) s.vertices) (space_words space')
      (length_either next s.vertices ∙ k.words.vertices)
      (subst (λ (st : List Vertex). Becomes z st (space_words space) (space_words space'))
      (ap (λ (t : Bool). cond t (map reopened (space_vertices space)) (space_vertices space)) next_is
      ∙ ap (λ (st : List Vertex). cond next (map reopened st) st) vertices_is) b.becomes))

  start_is : q.start ≡ job.start
  start_is = a.start ∙ sym (job_start c)

  goal_is : q.goal ≡ job.goal
  goal_is = a.goal ∙ sym (job_goal c)

  -- the kept route's cost, memory after it, and the record
  pub carries_end :
      (g : Graph) → g.words.now ≡ space.work.now → g.size ≡ z →
      (cost : ℕ) (route' : List ℕ) (space' : Workspace) (p' : Progress) → cost ≡ kept_cost (traced_cost g.size g.words.now q.start q.goal) p →
      route' ≡ kept_route g.size.vertices (traced_cost g.size g.words.now q.start q.goal) (traced_in g.size g.words.now q.start q.goal) p route →
      Stores (cond (ltb 1 left) (map reopened (space_vertices space)) (space_vertices space)) space space' →
      p' ≡ ended q.guide_count cost p → CarriesIn c (end_round job s) p' space' route'
  carries_end graph gw gz cost route' space' p' h r w e =
      let g : q.guide_count ≡ guides job = a.guides ∙ sym (job_guides c) in
      let h' : cost ≡ (end_round job s).progress.cost
      = ends_cost z (space_words space) job s a.fits.vertices plan_same vertices_is cost
      (rw (sym start_is, sym goal_is, sym k.progress) (h ∙ of_both gz gw (λ (y : Size) (w : List ℕ). kept_cost (traced_cost y w q.start q.goal) p))) in
      let r' : route' ≡ route_after job (end_round job s) c.memory.route
      = ends_route z (space_words space) job s a.fits.vertices plan_same vertices_is c.memory.route route route' done.walk.cost done.walk.is
      (λ i. (k.ok.kept.route i).short) k.kept (rw (sym start_is, sym goal_is, sym k.progress)
      (r ∙ of_both gz gw (λ (y : Size) (w : List ℕ). kept_route y.vertices (traced_cost y w q.start q.goal) (traced_in y w q.start q.goal) p route))) in
      record {
        ok = done.after;
        words = unfold end_round in (words_end space' w);
        kept = r';
        progress = e ∙ rw (h', k.progress, g) (unfold end_round ended in refl);
        turn = rw e (unfold ended in (omega (arith, first_few q.guide_count, a.guides)));
      }

  -- the record counts no further than the schedule
  pub few_rounds : p.rounds < 4294967295
  few_rounds = omega (arith, ap (λ (x : Progress). x.rounds) k.progress, more, rounds_few c a.fits.admitted)

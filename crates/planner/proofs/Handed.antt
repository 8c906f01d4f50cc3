-- A call that is not refused, from lent memory to what is handed over.
use Prim.Native.Nat.{ℕ}
use mathlib.Core.Path.{◌≡◌, refl, sym, ap, ◌∙◌}
use mathlib.Core.List.{List, []}
use lib.ListN.{length}
use lib.Seq.{take-nil}
use Rattle.graph.specs.declared.refusal.Refusal.{Refusal}
use Rattle.graph.specs.Lists.{fault, over}
use Rattle.search.specs.declared.Progress.{Progress}
use Rattle.search.specs.declared.Answer.{Answer}
use Rattle.std.specs.Prelude.{Result, Ok, Err}
use Rattle.search.specs.Job.{Job}
use Rattle.search.specs.Rounds.{begin, run, moments, search}
use Rattle.search.specs.Call.{Memory, Call, schedule_of, fault_of, plan_edges, job_of}
use Rattle.search.specs.Outcome.{answer_of, log_after, work_words, outcome, answer_in, answer, memory_in, memory_after}
use Rattle.search.proofs.Admitted.{admitted, plan_edges_lem}
use Rattle.search.proofs.Standing.{begin_good}
use Rattle.search.proofs.Runs.{begin_expansions}
use Rattle.search.proofs.Guarantee.{guaranteed, any_rule}
use Rattle.graph.specs.declared.Size.{Size}
use Rattle.admission.specs.declared.Call.{Call as Asked}
use Rattle.admission.specs.Admission.{taken, verdict_of, Decided}
use Rattle.admission.specs.Verdict.{Verdict}
use Rattle.admission.proofs.Admits.{Admits, admits, refuses}
use Rattle.workspace.specs.declared.Workspace.{Workspace}
use Rattle.workspace.specs.Layout.{Words, Ready}
use Rattle.workspace.specs.Space.{space_words}
use Rattle.workspace.proofs.Holding.{holds_ready}
use Rattle.planner.specs.declared.Standing.{Standing}
use Rattle.planner.specs.Plan.{memory_of, call_with, Planned}
use Rattle.planner.specs.Carried.{Asking, words_of, StandsIn}
use Rattle.planner.specs.Reached.{Given, Reaches, Running, Runs}
use Rattle.planner.specs.Begun.{Called, Beginning, Begins}
use Rattle.planner.specs.Finished.{AtEnd, Finishing, Finishes}
use Rattle.planner.specs.Planning.{Admission, Answers}
use Rattle.planner.proofs.Carrying.{same_memory}

-- ---- the search begins

log_none : (old : List ℕ) → old ≡ log_after [] old
unfolding log_after over
log_none old = rw (take-nil {A = ℕ} (length old)) refl

module _ (q : Asked) (z : Size) (at : ℕ) (m : Memory) (h : Admission q z at m) where
  abbrev c : Call
  c = call_with q m

  abbrev job : Job
  job = job_of c

  asking : Asking c z q
  unfolding schedule_of
  asking =
      record {
        fits = h.fits;
        start = refl;
        goal = refl;
        barred = refl;
        guides = refl;
        anchor_is = refl;
        schedule_is = refl;
      }

  called : Called c q z at (words_of m) m.route
  called = record { asking = asking; bytes_is = refl; words_are = refl; route_is = refl; header_is = h.header_is }

  pub beginning : Beginning q z at (words_of m) m.route
  beginning = record { call = c; called = called }

  -- both work memories hold the graph and the first vertices
  pub begun_ready : (first : Standing) (w : Words) (route : List ℕ) → Begins q z at (words_of m) m.route first w route → Ready z w
  begun_ready first w route b = holds_ready z (plan_edges c) _ (words_of m) w (b.begins c called).carries.words

  module _ (first : Standing) (space : Workspace) (route : List ℕ) (sz : space.size ≡ z)
      (b : Begins q z at (words_of m) m.route first (space_words space) route) where
    given : Given c q space
    given = record { asking = rw sz asking; sheets_is = refl }

    reaches_begin : Reaches c (begin job) [] first space route m.log
    reaches_begin =
        let y : StandsIn c (begin job) first space route = rw sz (b.begins c called) in
        record {
          stands = y;
          good = begin_good job (admitted c h.fits.admitted);
          logged = log_none m.log;
          turns = ap (λ (x : Progress). x.expansions) y.carries.progress ∙ begin_expansions job;
        }

    pub running : Running q space route m.log first
    running = record { call = c; given = given; reaches = reaches_begin }

    -- ---- and is handed over

    module _ (last : Standing) (space' : Workspace) (route' log' : List ℕ) (k : Runs q space route m.log q.budget first last space' route' log') where
      reaches_end : Reaches c (run job q.budget (begin job)) (moments job q.budget (begin job)) last space' route' log'
      reaches_end = k.runs c given reaches_begin

      at_end : (schedule : List ℕ) → schedule ≡ taken q → AtEnd c z (run job q.budget (begin job)) last schedule (space_words space') route'
      at_end schedule d =
          record {
            admitted = h.fits.admitted;
            vertices = h.fits.vertices;
            schedule_is = d ∙ asking.schedule_is;
            stands = rw (sym (k.lent.size_is ∙ sz)) reaches_end.stands;
            good = reaches_end.good;
          }

      pub finishing : (schedule : List ℕ) → schedule ≡ taken q → Finishing z last schedule route'
      finishing schedule d =
          record { call = c; stand = run job q.budget (begin job); words = space_words space'; at_end = at_end schedule d }

      pub handed :
          (r : Answer) → r ≡ answer_of job (run job q.budget (begin job)) → (work wide : List ℕ) → work ≡ space'.work.now → wide ≡ space'.wide.now →
          Answers c r (memory_of route' log' work wide)
      unfolding answer answer_in memory_after memory_in outcome search
      handed r o work wide e g =
          let y = reaches_end in
          let s : space'.size.vertices ≡ job.size = ap (λ (x : Size). x.vertices) (k.lent.size_is ∙ sz) ∙ h.fits.vertices in
          let w : work ≡ over (work_words job.size (plan_edges c) (run job q.budget (begin job)).state.vertices) m.work
          = e ∙ y.stands.carries.words.words
          ∙ ap (λ (v : ℕ). over (work_words v (plan_edges c) (run job q.budget (begin job)).state.vertices) m.work) s in
          record {
            answer_is = rw h.fits.admitted (ap Ok o);
            memory_is = rw h.fits.admitted (same_memory y.stands.carries.kept y.logged w (g ∙ y.stands.carries.words.numbers));
          }

      pub answers_all :
          (schedule : List ℕ) → schedule ≡ taken q → (r : Answer) → Finishes z last schedule route' r → (work wide : List ℕ) →
          work ≡ space'.work.now → wide ≡ space'.wide.now → Answers c r (memory_of route' log' work wide)
      answers_all schedule d r f =
          handed r (f.finishes c (run job q.budget (begin job)) (space_words space') (at_end schedule d))

-- ---- refused, or not

-- what is decided of a call with this memory
module _ (q : Asked) (m : Memory) (d : Verdict)
    (k : Decided q (record { route = length m.route; work = length m.work; wide = length m.wide }) d) where
  decided : d ≡ verdict_of (call_with q m)
  unfolding schedule_of
  decided =
      k.decided (call_with q m)
      (record {
        bytes_is = refl;
        start_is = refl;
        goal_is = refl;
        barred_is = refl;
        anchor_is = refl;
        sheets_is = refl;
        count_is = refl;
        schedule_is = refl;
        route_is = refl;
        work_is = refl;
        wide_is = refl;
      })

  pub planned_refused : (e : Refusal) → d ≡ Err e → (r : Result Answer Refusal) → r ≡ Err e → Planned (call_with q m) r m
  unfolding answer answer_in memory_after memory_in
  planned_refused e h r i =
      let c : Call = call_with q m in
      let f : fault_of c ≡ fault e.cause e.at = refuses c e (sym decided ∙ h) in
      record { answers = i ∙ rw f refl; memory_is = rw f refl; promise = guaranteed c; any_rule = any_rule c }

  module _ (z : Size) (at : ℕ) (h : d ≡ Ok (z, at)) where
    pub admission : Admission q z at m
    admission =
        let c : Call = call_with q m in
        let a : Admits c z.vertices z.edges at = admits c z.vertices z.edges at (sym decided ∙ h) in
        record {
          fits =
              record {
                admitted = a.none;
                vertices = sym a.size;
                edges = sym a.count ∙ ap length (sym (plan_edges_lem c z.vertices a.edges a.plan));
              };
          header_is = a.header_is;
        }

pub planned : (c : Call) (r : Answer) (m' : Memory) → Answers c r m' → Planned c (Ok r) m'
planned c r m' y = record { answers = y.answer_is; memory_is = y.memory_is; promise = guaranteed c; any_rule = any_rule c }

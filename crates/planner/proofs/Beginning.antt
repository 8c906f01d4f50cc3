-- The search at first, as memory carries it: the loaded graph, the first vertices, and step 1.
use Prim.Native.Nat.{ℕ, ◌-◌, ◌*◌, ◌≤◌, ◌<◌}
use native.Mathlib.Omega.{arith}
use mathlib.Core.Path.{◌≡◌, refl, sym, ap, ◌∙◌, subst}
use mathlib.Core.List.{List, []}
use lib.ListN.{length, length-set, length-replicate}
use Rattle.graph.specs.declared.Edge.{Edge}
use Rattle.std.specs.Prelude.{Ok}
use Rattle.graph.specs.Refusal.{size_of}
use Rattle.graph.specs.Plan.{accepted, first_at, edges_from, after_header, decode, sizes}
use Rattle.graph.specs.Lists.{over, edges_in}
use Rattle.search.specs.declared.Vertex.{Vertex}
use Rattle.search.specs.declared.Progress.{Progress}
use Rattle.search.specs.Job.{State, Job, guides, at_first}
use Rattle.search.specs.Rounds.{first_turn, settle, settled, begin}
use Rattle.search.specs.Call.{Call, pairs, plan_edges, job_of}
use Rattle.search.specs.Outcome.{route_after}
use Rattle.search.proofs.Admitted.{admitted, plan_edges_lem}
use Rattle.search.proofs.Standing.{first_ok}
use Rattle.graph.specs.declared.Size.{Size}
use Rattle.workspace.specs.declared.Workspace.{Workspace}
use Rattle.workspace.specs.Layout.{base, Words, mem, Room, Loaded, graph_words, Becomes}
use Rattle.workspace.specs.Space.{space_words}
use Rattle.workspace.specs.Holds.{Holds, Rising}
use Rattle.workspace.proofs.Holding.{accepted_rising, with_graph, whole_loaded, holds_laid}
use Rattle.progress.specs.Moved.{first_progress}
use Rattle.admission.specs.declared.Call.{Call as Asked}
use Rattle.admission.specs.Admission.{taken}
use Rattle.planner.specs.declared.Standing.{Standing}
use Rattle.planner.specs.Carried.{Asking, words_of, CarriesIn, Stands, Settling, Settles}
use Rattle.planner.specs.Begun.{Called}
use Rattle.planner.proofs.Jobs.{first_few, Accepted, accepts, job_size, job_guides, job_start}
use Rattle.planner.proofs.Asked.{start_in, words_room, rounds_are}

-- the state at first
first_state : Job → State
first_state job =
    record {
      vertices = at_first job.size job.start;
      progress = record { turn = first_turn (guides job); expansions = 0; rounds = 0; cost = 0 };
      incumbent = [];
    }

first_count : (v s : ℕ) → length (at_first v s) ≡ v
unfolding at_first
first_count v s = rw (length-set, length-replicate)

module _ (c : Call) (q : Asked) (z : Size) (at : ℕ) (m : Words) (route : List ℕ) (h : Called c q z at m route) where
  abbrev job : Job
  job = job_of c

  plan : Accepted c
  plan = accepts c h.asking.fits.admitted

  decode_is : decode c.bytes ≡ edges_from z.vertices z.edges c.bytes (first_at at)
  unfolding decode after_header
  decode_is = ap (after_header c.bytes) h.header_is

  -- the plan's edges, from the first one on
  edges_read : edges_from z.vertices z.edges q.bytes.now (first_at at) ≡ accepted plan.v plan.es
  edges_read =
      ap (λ (l : List ℕ). edges_from z.vertices z.edges l (first_at at)) h.bytes_is
      ∙ sym decode_is
      ∙ plan.plan

  edges_are : edges_in (edges_from z.vertices z.edges q.bytes.now (first_at at)) ≡ plan_edges c
  unfolding edges_in
  edges_are = ap edges_in edges_read ∙ sym (plan_edges_lem c plan.v plan.es plan.plan)

  size_is : z.vertices ≡ plan.v
  size_is = h.asking.fits.vertices ∙ job_size c plan

  count_is : length (plan_edges c) ≡ z.edges
  count_is = sym h.asking.fits.edges

  rises : Rising z.vertices 0 (plan_edges c)
  rises = rw (size_is, plan_edges_lem c plan.v plan.es plan.plan) (accepted_rising c.bytes plan.v plan.es plan.plan)

  room : Room z m
  room = rw h.words_are (words_room c z h.asking.fits)

  pub load_asks : (sizes (edges_from z.vertices z.edges q.bytes.now (first_at at)) ≡ Ok (size_of z.vertices z.edges)) × (base z ≤ length m.work)
  unfolding sizes
  load_asks = (
    ap sizes edges_read ∙ rw (sym size_is, sym (plan_edges_lem c plan.v plan.es plan.plan), count_is) refl,
    omega (arith, room.work),
  )

  module _ (loaded : List ℕ)
      (l : loaded ≡ over (graph_words z.vertices (edges_in (edges_from z.vertices z.edges q.bytes.now (first_at at)))) m.work) where
    graph_laid : mem loaded m.wide ≡ with_graph z (plan_edges c) m
    graph_laid =
        ap (λ (w : List ℕ). mem w m.wide)
        (l ∙ ap (λ (es : List Edge). over (graph_words z.vertices es) m.work) edges_are)

    pub first_asks : Loaded z loaded × (2 * z.vertices ≤ length m.wide) × (q.start < z.vertices)
    first_asks = (
      subst (λ (x : Words). Loaded z x.work) (sym graph_laid) (whole_loaded z (plan_edges c) m room count_is rises).graph,
      room.wide,
      start_in c z q h.asking,
    )

    -- the workspace and the record at first
    module _ (space : Workspace) (sz : space.size ≡ z) (f : Becomes z (at_first z.vertices q.start) (mem loaded m.wide) (space_words space))
        (p : Progress) (g : p ≡ first_progress q.guide_count) where
      vertices_are : at_first z.vertices q.start ≡ at_first job.size job.start
      vertices_are = rw (h.asking.fits.vertices, h.asking.start, job_start c) refl

      words : Holds z (plan_edges c) (at_first job.size job.start) (words_of c.memory) (space_words space)
      words =
          subst (λ (old : Words). Holds z (plan_edges c) (at_first job.size job.start) old (space_words space)) h.words_are
          (holds_laid z (plan_edges c) (at_first job.size job.start) m (mem loaded m.wide) (space_words space) room count_is rises
          (first_count job.size job.start ∙ sym h.asking.fits.vertices) graph_laid
          (subst (λ (st : List Vertex). Becomes z st (mem loaded m.wide) (space_words space)) vertices_are f))

      progress_is : p ≡ (first_state job).progress
      unfolding first_state first_progress
      progress_is = g ∙ rw (h.asking.guides, job_guides c) refl

      carries_first : CarriesIn c (first_state job) p space route
      unfolding first_state route_after
      carries_first =
          record {
            ok = first_ok job (admitted c h.asking.fits.admitted);
            words = rw sz words;
            kept = h.route_is;
            progress = progress_is;
            turn = rw g (unfold first_progress in (omega (arith, first_few q.guide_count, h.asking.guides)));
          }

      asked : Asking c space.size q
      asked = rw sz h.asking

      module _ (schedule : List ℕ) (d : schedule ≡ taken q) (left : ℕ) (n : left ≡ length (pairs schedule)) where
        left_is : left ≡ length job.schedule - (first_state job).progress.rounds
        unfolding first_state
        left_is = omega (arith, n, rounds_are c z q h.asking schedule d)

        pub settle_asks : Settling q space route left p
        settle_asks =
            record {
              call = c;
              state = first_state job;
              asking = asked;
              carries = carries_first;
              left_is = left_is;
            }

        begin_is : settle job left (first_state job) ≡ begin job
        begin_is =
            ap (λ (x : ℕ). settle job x (first_state job)) left_is ∙ (unfold begin settled first_state in refl)

        pub begins_there :
            (r : Standing) (space' : Workspace) (route' work wide : List ℕ) → Settles q space route left p r space' route' →
            work ≡ space'.work.now → wide ≡ space'.wide.now → Stands c z (begin job) r (mem work wide) route'
        begins_there r space' route' work wide s e o =
            rw (sym begin_is, e, o, sym (s.lent.size_is ∙ sz)) (s.settles c (first_state job) asked carries_first left_is)

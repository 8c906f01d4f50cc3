-- A turn and step 1 after it, as memory carries them.
use Prim.Native.Nat.{ℕ, ◌+◌, ◌-◌, ◌≤◌, ◌<◌}
use native.Mathlib.Omega.{arith}
use mathlib.Core.Path.{◌≡◌, refl, sym, ap, ◌∙◌, subst}
use mathlib.Core.List.{List, [], ◌∷◌, ◌++◌, append-nil}
use lib.ListN.{length, get_or, set, length-append}
use Rattle.graph.specs.declared.Edge.{Edge}
use Rattle.search.specs.declared.Vertex.{Vertex}
use Rattle.search.specs.declared.Factors.{Factors}
use Rattle.search.specs.declared.Choice.{Choice}
use Rattle.search.specs.declared.Progress.{Progress}
use Rattle.search.specs.declared.Step.TheVariants.{Due}
use Rattle.search.specs.Permitted.{permitted}
use Rattle.search.specs.Job.{State, Job, cyclic, guides, heuristic, factors}
use Rattle.search.specs.Turn.{candidate, expand}
use Rattle.search.specs.Rounds.{Stand, Moment, turned, in_hand, choice, turn, settle, settled, advance, run, moments}
use Rattle.search.specs.Call.{Call, pairs, tables, plan_edges, job_of}
use Rattle.search.specs.Outcome.{route_after, log_word, log_after}
use Rattle.search.specs.Bounds.{max_key}
use Rattle.search.proofs.Facts.{InRange, Valid}
use Rattle.search.proofs.Moves.{length_expand}
use Rattle.search.proofs.Admitted.{admitted, job_edges}
use Rattle.search.proofs.Standing.{says_due, turn_ok, advance_good}
use Rattle.search.proofs.Runs.{advance_due, advance_over, moments_due, moments_over, run_suc, counts}
use Rattle.graph.specs.declared.Size.{Size}
use Rattle.workspace.specs.declared.Workspace.{Workspace}
use Rattle.workspace.specs.Layout.{Becomes}
use Rattle.workspace.specs.Space.{space_words, space_vertices, space_edges, Stores}
use Rattle.workspace.proofs.Holding.{holds_vertices, holds_graph, holds_written}
use Rattle.turn.specs.Asked.{sheet, choice_of, choice_word, Asked as TurnAsked}
use Rattle.turn.proofs.Keys.{candidate_sheet}
use Rattle.admission.specs.declared.Call.{Call as Asked}
use Rattle.admission.specs.Admission.{taken}
use Rattle.planner.specs.declared.Standing.{Standing}
use Rattle.planner.specs.Carried.{Asking, words_of, CarriesIn, StandsIn, Settling, Settles}
use Rattle.planner.specs.Reached.{Given, Reaches, Advancing, Advances}
use Rattle.planner.proofs.Jobs.{next_few, job_heuristics, job_guides, job_pick}
use Rattle.planner.proofs.Asked.{small, few, sheets_long, in_range, rounds_are, factors_are, priced_in}
use Rattle.planner.proofs.Carrying.{lent_same, lent_then, asking_then}
use Rattle.planner.proofs.Logging.{log_more}

-- a turn that is due
module _ (c : Call) (q : Asked) (space : Workspace) (route log : List ℕ) (y : Stand) (ts : List Moment) (s : Standing)
    (g : Given c q space) (k : Reaches c y ts s space route log) (m b : ℕ) (e : s.step ≡ Due m b) where
  abbrev job : Job
  job = job_of c

  abbrev z : Size
  z = space.size

  abbrev st : State
  st = y.state

  abbrev p : Progress
  p = s.progress

  a : Asking c z q
  a = g.asking

  carried : CarriesIn c st p space route
  carried = k.stands.carries

  pub is_due : y.step ≡ Due m b
  is_due = sym k.stands.step ∙ e

  valid : Valid job
  valid = admitted c a.fits.admitted

  in_schedule : st.progress.rounds < length job.schedule
  in_schedule = (says_due k.good is_due).0

  rounds_is : p.rounds ≡ st.progress.rounds
  rounds_is = ap (λ (x : Progress). x.rounds) carried.progress

  -- whose turn it is
  turn_is : p.turn ≡ job.pick st
  unfolding cyclic
  turn_is = ap (λ (x : Progress). x.turn) carried.progress ∙ sym (ap (λ (f : State → ℕ). f st) (job_pick c))

  vertices_held : space_vertices space ≡ st.vertices
  vertices_held = holds_vertices z (plan_edges c) st.vertices (words_of c.memory) (space_words space) carried.words

  module _ (schedule : List ℕ) (d : schedule ≡ taken q) where
    pub round_in : p.rounds < length (pairs schedule)
    round_in = omega (arith, in_schedule, rounds_is, rounds_are c z q a schedule d)

    module _ (f : Factors) (fe : f ≡ get_or (pairs schedule) p.rounds (record { w1 = 0; w2 = 0 })) where
      factor_is : f ≡ factors job p.rounds
      factor_is = fe ∙ factors_are c z q a schedule d p.rounds

      factors_held : f ≡ in_hand job st
      unfolding in_hand
      factors_held = factor_is ∙ ap (factors job) rounds_is

      range : InRange (factors job p.rounds).w1 (factors job p.rounds).w2
      range = in_range c z a.fits p.rounds (omega (arith, in_schedule, rounds_is))

      pub turn_asks : TurnAsked z f q.guides.now (space_words space) p.turn × (m ≤ max_key) × (b < z.vertices)
      turn_asks = (
        record {
          priced = priced_in c z a.fits st p (space_words space) route carried;
          sheets = sheets_long c z a.fits p.turn q.guides.now carried.turn g.sheets_is;
          few = omega (arith, carried.turn, few c z a.fits);
          small = small c z a.fits;
          w1 = omega (arith, ap (λ (x : Factors). x.w1) factor_is, range.high1);
          w2 = omega (arith, ap (λ (x : Factors). x.w2) factor_is, range.high2);
        },
        k.stands.due.key m b e,
        k.stands.due.vertex m b e,
      )

      -- what is chosen, as the code finds it
      abbrev found : Choice
      found = choice_of z f q.guides.now (space_words space) m b p.turn

      abbrev c' : Choice
      c' = choice job m b st

      candidate_is : candidate p.turn f.w1 (sheet z.vertices p.turn q.guides.now) (space_vertices space)
          ≡ candidate (job.pick st) (in_hand job st).w1 (heuristic job (job.pick st)) st.vertices
      unfolding heuristic
      candidate_is =
          let i : ℕ = p.turn in
          let vs : List Vertex = space_vertices space in
          candidate_sheet f.w1 vs z.vertices c.count i c.anchor q.guides.now carried.turn
          ∙ ap (λ (l : List ℕ). candidate i f.w1 (get_or (c.anchor ∷ tables z.vertices c.count l) i []) vs) g.sheets_is
          ∙ ap (λ (v : ℕ). candidate i f.w1 (get_or (c.anchor ∷ tables v c.count c.sheets) i []) vs) a.fits.vertices
          ∙ ap (λ (hs : List (List ℕ)). candidate i f.w1 (get_or hs i []) vs) (sym (job_heuristics c))
          ∙ ap (candidate i f.w1 (get_or job.heuristics i [])) vertices_held
          ∙ ap (λ (w : ℕ). candidate i w (get_or job.heuristics i []) st.vertices) (ap (λ (x : Factors). x.w1) factors_held)
          ∙ ap (λ (n : ℕ). candidate n (in_hand job st).w1 (get_or job.heuristics n []) st.vertices) turn_is

      pub choice_is : found ≡ c'
      unfolding choice_of choice
      choice_is = rw (candidate_is, factors_held, turn_is) refl

      -- the record, and memory after the turn
      module _ (next : Progress) (space' : Workspace) (ne : next ≡ turned q.guide_count p)
          (we : Stores (expand (permitted q.barred (space_edges space)) found.heuristic found.vertex (space_vertices space)) space space') where
        abbrev after : State
        after = turn job c' st

        guides_is : q.guide_count ≡ guides job
        guides_is = a.guides ∙ sym (job_guides c)

        edges_are : permitted q.barred (space_edges space) ≡ job.edges
        edges_are =
            ap (permitted q.barred) (holds_graph z (plan_edges c) st.vertices (words_of c.memory) (space_words space) carried.words)
            ∙ ap (λ (n : ℕ). permitted n (plan_edges c)) a.barred
            ∙ sym (job_edges c)

        vertices_are :
            expand (permitted q.barred (space_edges space)) found.heuristic found.vertex (space_vertices space)
            ≡ expand job.edges c'.heuristic c'.vertex st.vertices
        vertices_are =
            ap (λ (x : Choice). expand (permitted q.barred (space_edges space)) x.heuristic x.vertex (space_vertices space)) choice_is
            ∙ ap (λ (es : List Edge). expand es c'.heuristic c'.vertex (space_vertices space)) edges_are
            ∙ ap (λ (vs : List Vertex). expand job.edges c'.heuristic c'.vertex vs) vertices_held

        asked_next : Asking c space'.size q
        asked_next = asking_then c q space space' we.lent a

        pub carries_turn : CarriesIn c after next space' route
        unfolding turn turned route_after
        carries_turn =
            record {
              ok = turn_ok job valid y m b k.good is_due;
              words =
                  rw we.lent.size_is
                  (holds_written z (plan_edges c) st.vertices (words_of c.memory) (space_words space) carried.words
                  (expand job.edges c'.heuristic c'.vertex st.vertices) (space_words space')
                  (length_expand job.edges c'.heuristic c'.vertex st.vertices ∙ carried.words.vertices)
                  (subst (λ (vs : List Vertex). Becomes z vs (space_words space) (space_words space')) vertices_are we.becomes));
              kept = carried.kept;
              progress = ne ∙ ap (λ (n : ℕ). turned n p) guides_is ∙ ap (turned (guides job)) carried.progress;
              turn = rw ne (omega (arith, next_few q.guide_count p.turn, a.guides));
            }

        -- the rounds left after it
        rounds_after : next.rounds ≡ st.progress.rounds
        unfolding turned
        rounds_after = ap (λ (x : Progress). x.rounds) ne ∙ rounds_is

        module _ (rounds : ℕ) (re : rounds ≡ length (pairs schedule)) where
          all_rounds : rounds ≡ length job.schedule
          all_rounds = re ∙ rounds_are c z q a schedule d

          pub left_enough : next.rounds ≤ rounds
          left_enough = omega (arith, rounds_after, in_schedule, all_rounds)

          pub left_is : rounds - next.rounds ≡ length job.schedule - after.progress.rounds
          unfolding turn turned
          left_is = omega (arith, rounds_after, all_rounds)

        abbrev moment : Moment
        moment = record { before = st; choice = c' }

        turns_is : moments job 1 y ≡ moment ∷ []
        unfolding moments
        turns_is = moments_due job 0 y m b is_due

        word_is : choice_word c' ≡ log_word moment
        unfolding choice_word log_word
        word_is = refl

        -- step 1 after it, and the log with the turn
        pub reaches_next :
            (rounds : ℕ) → rounds ≡ length (pairs schedule) → (r : Standing) (space'' : Workspace) (route'' log'' : List ℕ) →
            log'' ≡ set log p.expansions (choice_word found) → Settles q space' route (rounds - next.rounds) next r space'' route'' →
            Reaches c (advance job y) (ts ++ moments job 1 y) r space'' route'' log''
        reaches_next rounds re r space'' route'' log'' le h =
            let i : rounds - next.rounds ≡ length job.schedule - after.progress.rounds = left_is rounds re in
            let o : StandsIn c (settle job (rounds - next.rounds) after) r space'' route'' = h.settles c after asked_next carries_turn i in
            let s' : settle job (rounds - next.rounds) after ≡ advance job y
            = ap (λ (n : ℕ). settle job n after) i ∙ sym (advance_due job y m b is_due ∙ unfold settled in refl) in
            let o' : StandsIn c (advance job y) r space'' route'' = subst (λ (x : Stand). StandsIn c x r space'' route'') s' o in
            let n : run job 1 y ≡ advance job y = run_suc job 0 y ∙ unfold run in refl in
            let w : (advance job y).state.progress.expansions ≡ st.progress.expansions + length (moments job 1 y)
            = ap (λ (x : Stand). x.state.progress.expansions) (sym n) ∙ counts job 1 y in
            record {
              stands = o';
              good = advance_good job valid y m b k.good is_due;
              logged =
                  le
                  ∙ ap (λ (x : Choice). set log p.expansions (choice_word x)) choice_is
                  ∙ ap (λ (ws : List ℕ). set ws p.expansions (choice_word c')) k.logged
                  ∙ ap (λ (x : ℕ). set (log_after ts c.memory.log) x (choice_word c')) k.turns
                  ∙ ap (λ (x : ℕ). set (log_after ts c.memory.log) (length ts) x) word_is
                  ∙ log_more ts moment c.memory.log
                  ∙ ap (λ (us : List Moment). log_after (ts ++ us) c.memory.log) (sym turns_is);
              turns =
                  omega (
                    arith,
                    ap (λ (x : Progress). x.expansions) o'.carries.progress,
                    w,
                    ap (λ (x : Progress). x.expansions) carried.progress,
                    k.turns,
                    length-append ts (moments job 1 y),
                  );
            }

-- ---- what the code asks on the way, and what it answers

module _ (q : Asked) (space : Workspace) (route log : List ℕ) (s : Standing) where
  -- no turn is due
  pub advances_over : ((m b : ℕ) → s.step ≡ Due m b → ⊥) → Advances q space route log s s space route log
  advances_over n =
      record {
        lent = lent_same space;
        advances =
            λ c y ts g k.
            let o : (m b : ℕ) → y.step ≡ Due m b → ⊥ = λ m b e. n m b (k.stands.step ∙ e) in
            let t : ts ++ moments (job_of c) 1 y ≡ ts = ap (λ (us : List Moment). ts ++ us) (moments_over (job_of c) y o 1) ∙ append-nil ts in
            rw (advance_over (job_of c) y o, t) k;
      }

  module _ (m b : ℕ) (e : s.step ≡ Due m b) (schedule : List ℕ) (d : schedule ≡ taken q)
      (f : Factors) (fe : f ≡ get_or (pairs schedule) s.progress.rounds (record { w1 = 0; w2 = 0 }))
      (next : Progress) (space' : Workspace) (ne : next ≡ turned q.guide_count s.progress)
      (we : Stores (expand (permitted q.barred (space_edges space)) (choice_of space.size f q.guides.now (space_words space) m b s.progress.turn).heuristic (choice_of space.size f q.guides.now (space_words space) m b s.progress.turn).vertex (space_vertices space)) space space')
      (rounds : ℕ) (re : rounds ≡ length (pairs schedule)) where
    pub settling_next : Advancing q space route log s → Settling q space' route (rounds - next.rounds) next
    settling_next h =
        record {
          call = h.call;
          state = turn (job_of h.call) (choice (job_of h.call) m b h.stand.state) h.stand.state;
          asking = asking_then h.call q space space' we.lent h.given.asking;
          carries = carries_turn h.call q space route log h.stand h.turns s h.given h.reaches m b e schedule d f fe next space' ne we;
          left_is = left_is h.call q space route log h.stand h.turns s h.given h.reaches m b e schedule d f fe next space' ne we rounds re;
        }

    pub advances_due :
        (r : Standing) (space'' : Workspace) (route'' log'' : List ℕ) →
        log'' ≡ set log s.progress.expansions (choice_word (choice_of space.size f q.guides.now (space_words space) m b s.progress.turn)) →
        Settles q space' route (rounds - next.rounds) next r space'' route'' → Advances q space route log s r space'' route'' log''
    advances_due r space'' route'' log'' le h =
        record {
          lent = lent_then space space' space'' we.lent h.lent;
          advances =
              λ c y ts g k.
              reaches_next c q space route log y ts s g k m b e schedule d f fe next space' ne we rounds re r space'' route'' log'' le h;
        }

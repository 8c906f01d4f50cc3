-- Step 1 again and again, as memory carries it.
use Prim.Native.Nat.{ℕ, suc, ◌-◌, ◌≤◌, ◌<◌}
use native.Mathlib.Omega.{arith}
use mathlib.Core.Path.{◌≡◌, refl, sym, ap, ◌∙◌, subst}
use mathlib.Core.List.{List}
use lib.ListN.{length, get_or}
use Rattle.search.specs.declared.Vertex.{Vertex}
use Rattle.search.specs.declared.Factors.{Factors}
use Rattle.search.specs.declared.Progress.{Progress}
use Rattle.search.specs.declared.Step.{Step}
use Rattle.search.specs.declared.Step.TheVariants.{Stuck, Finished, Due}
use Rattle.search.specs.Job.{State, Job, factors, at}
use Rattle.search.specs.Turn.{least, step_one}
use Rattle.search.specs.Rounds.{Stand, ended, in_hand, step, end_round, on_finished, settle}
use Rattle.search.specs.Call.{Call, pairs, plan_edges, job_of}
use Rattle.search.specs.Bounds.{max_factor, Priced, DueWithin}
use Rattle.search.proofs.Facts.{InRange}
use Rattle.graph.specs.declared.Size.{Size}
use Rattle.workspace.specs.declared.Vertices.{Vertices}
use Rattle.workspace.specs.declared.Workspace.{Workspace}
use Rattle.workspace.specs.Layout.{Words, vertices_of}
use Rattle.workspace.specs.Space.{vertices_seen, space_vertices, space_words}
use Rattle.workspace.proofs.Holding.{holds_vertices}
use Rattle.workspace.proofs.Spaces.{seen_is}
use Rattle.admission.specs.declared.Call.{Call as Asked}
use Rattle.admission.specs.Admission.{taken}
use Rattle.planner.specs.declared.Standing.{Standing}
use Rattle.planner.specs.Carried.{Asking, words_of, Carries, Stands, RoundOver, RoundEnds, Settling, Settles}
use Rattle.planner.proofs.Jobs.{job_anchor, job_goal}
use Rattle.planner.proofs.Carrying.{lent_same, lent_then, asking_then}
use Rattle.planner.proofs.Asked.{anchor_long, goal_in, in_range, rounds_are, factors_are, priced_in}

finished≢due : {m a : ℕ} → Finished ≡ Due m a → ⊥
finished≢due h = let z : ◌≡◌ {A = ℕ} 0 1 = cc in omega arith

-- no turn is due where every round is finished
pub due_never : (n : ℕ) → DueWithin n Finished
due_never n = record { key = λ m a e. absurd (finished≢due e); vertex = λ m a e. absurd (finished≢due e) }

module _ (c : Call) (z : Size) (q : Asked) (s : State) (p : Progress) (m : Words) (route : List ℕ) (a : Asking c z q) (k : Carries c z s p m route) where
  abbrev job : Job
  job = job_of c

  -- step 1, as the code finds it
  pub step_is :
      (schedule : List ℕ) (f : Factors) (t : Step) → schedule ≡ taken q → f ≡ get_or (pairs schedule) p.rounds (record { w1 = 0; w2 = 0 }) →
      t ≡ step_one f.w2 (at (vertices_of z m) q.goal).g (least 0 f.w1 q.anchor.now (vertices_of z m)) → t ≡ step job s
  unfolding step in_hand
  step_is schedule f t d g h =
      let i : f ≡ factors job s.progress.rounds
      = g ∙ factors_are c z q a schedule d p.rounds ∙ ap (factors job) (ap (λ (x : Progress). x.rounds) k.progress) in
      let j : q.goal ≡ job.goal = a.goal ∙ sym (job_goal c) in
      h ∙ rw (i, j, a.anchor_is, job_anchor c, holds_vertices z (plan_edges c) s.vertices (words_of c.memory) m k.words) refl

  -- no round is left
  pub settle_none : (left : ℕ) → left ≤ 0 → Stands c z (settle job left s) (record { step = Finished; progress = p }) m route
  unfolding settle
  settle_none left h =
      let e : left ≡ 0 = omega arith in rw e (record { step = refl; due = due_never z.vertices; carries = k })

  one_less : (left : ℕ) → 0 < left → left ≡ suc (left - 1)
  one_less left h = omega arith

  pub settle_one : (left : ℕ) (t : Step) → 0 < left → t ≡ step job s → settle job left s ≡ on_finished t s (λ u. settle job (left - 1) (end_round job u))
  unfolding settle
  settle_one left t l e =
      ap (λ (n : ℕ). settle job n s) (one_less left l) ∙ ap (λ (x : Step). on_finished x s (λ u. settle job (left - 1) (end_round job u))) (sym e)

  stop_by :
      (next : State → Stand) (t : Step) → DueWithin z.vertices t → (t ≡ Finished → ⊥) →
      Stands c z (on_finished t s next) (record { step = t; progress = p }) m route
  unfolding on_finished
  stop_by next Stuck d n = record { step = refl; due = d; carries = k }
  stop_by next Finished d n = absurd (n refl)
  stop_by next (Due m a) d n = record { step = refl; due = d; carries = k }

  -- nothing is open, or a turn is due
  pub settle_stop :
      (left : ℕ) (t : Step) → 0 < left → t ≡ step job s → DueWithin z.vertices t → (t ≡ Finished → ⊥) →
      Stands c z (settle job left s) (record { step = t; progress = p }) m route
  settle_stop left t l e d n = rw (settle_one left t l e) (stop_by (λ u. settle job (left - 1) (end_round job u)) t d n)

  -- a round is finished, and the rest is settled
  pub settle_on : (left : ℕ) (t : Step) → 0 < left → t ≡ step job s → t ≡ Finished → settle job left s ≡ settle job (left - 1) (end_round job s)
  unfolding on_finished
  settle_on left t l e f = rw (settle_one left t l e, f) refl

-- ---- what the code asks on the way

module _ (q : Asked) (space : Workspace) (route : List ℕ) (left : ℕ) (p : Progress) (h : Settling q space route left p) (some : left ≡ 0 → ⊥) where
  abbrev c : Call
  c = h.call

  pub more : h.state.progress.rounds < length (job_of c).schedule
  more = omega (arith, h.left_is)

  rounds_is : p.rounds ≡ h.state.progress.rounds
  rounds_is = ap (λ (x : Progress). x.rounds) h.carries.progress

  module _ (schedule : List ℕ) (d : schedule ≡ taken q) where
    -- the round in hand is one of the schedule
    pub round_in : p.rounds < length (pairs schedule)
    round_in = omega (arith, more, rounds_is, rounds_are c space.size q h.asking schedule d)

    module _ (f : Factors) (e : f ≡ get_or (pairs schedule) p.rounds (record { w1 = 0; w2 = 0 })) where
      range : InRange (factors (job_of c) p.rounds).w1 (factors (job_of c) p.rounds).w2
      range = in_range c space.size h.asking.fits p.rounds (omega (arith, more, rounds_is))

      factor_is : f ≡ factors (job_of c) p.rounds
      factor_is = e ∙ factors_are c space.size q h.asking schedule d p.rounds

      -- step 1, of the vertices that are read
      module _ (v : Vertices) (vw : v.work.now ≡ space.work.now) (vn : v.wide.now ≡ space.wide.now) (n : v.size ≡ space.size) where
        w : vertices_seen v ≡ space_vertices space
        w = seen_is space v vw vn n

        vertex_count : v.size.vertices ≡ space.size.vertices
        vertex_count = ap (λ (x : Size). x.vertices) n

        pub step_asks :
            (v.size.vertices ≤ length q.anchor.now) × (q.goal < v.size.vertices) × (f.w1 ≤ max_factor) × (f.w2 ≤ max_factor) × Priced (vertices_seen v)
        step_asks = (
          omega (arith, anchor_long c space.size q h.asking, vertex_count),
          omega (arith, goal_in c space.size q h.asking, vertex_count),
          omega (arith, ap (λ (x : Factors). x.w1) factor_is, range.high1),
          omega (arith, ap (λ (x : Factors). x.w2) factor_is, range.high2),
          rw w (priced_in c space.size h.asking.fits h.state p (space_words space) route h.carries),
        )

        -- it finished the round
        module _ (t : Step) (g : t ≡ step_one f.w2 (at (vertices_seen v) q.goal).g (least 0 f.w1 q.anchor.now (vertices_seen v))) (fin : t ≡ Finished) where
          is_finished : step (job_of c) h.state ≡ Finished
          is_finished =
              sym (step_is c space.size q h.state p (space_words space) route h.asking h.carries schedule f t d e
              (g ∙ ap (λ (st : List Vertex). step_one f.w2 (at st q.goal).g (least 0 f.w1 q.anchor.now st)) w)) ∙ fin

          pub round_over : RoundOver q space route left p
          round_over =
              record {
                call = c;
                state = h.state;
                asking = h.asking;
                carries = h.carries;
                left_is = h.left_is;
                more = more;
                finished = is_finished;
              }

          -- the rest is settled from there
          pub settling_on : (r : Progress) (space' : Workspace) (route' : List ℕ) → RoundEnds q space route left p r space' route' → Settling q space' route' (left - 1) r
          unfolding end_round ended
          settling_on r space' route' y =
              record {
                call = c;
                state = end_round (job_of c) h.state;
                asking = asking_then c q space space' y.lent h.asking;
                carries = y.ends c h.state h.asking h.carries h.left_is more is_finished;
                left_is = omega (arith, h.left_is, more);
              }

-- ---- what it answers, whatever the call and the state are

module _ (q : Asked) (space : Workspace) (route : List ℕ) (left : ℕ) (p : Progress) where
  pub settles_none : left ≡ 0 → Settles q space route left p (record { step = Finished; progress = p }) space route
  settles_none e =
      record {
        lent = lent_same space;
        settles = λ c s a k l. settle_none c space.size q s p (space_words space) route a k left (omega arith);
      }

  module _ (some : left ≡ 0 → ⊥) (schedule : List ℕ) (d : schedule ≡ taken q) (f : Factors) (e : f ≡ get_or (pairs schedule) p.rounds (record { w1 = 0; w2 = 0 }))
      (v : Vertices) (vw : v.work.now ≡ space.work.now) (vn : v.wide.now ≡ space.wide.now) (n : v.size ≡ space.size)
      (t : Step) (g : t ≡ step_one f.w2 (at (vertices_seen v) q.goal).g (least 0 f.w1 q.anchor.now (vertices_seen v))) where
    found : t ≡ step_one f.w2 (at (space_vertices space) q.goal).g (least 0 f.w1 q.anchor.now (space_vertices space))
    found = g ∙ ap (λ (st : List Vertex). step_one f.w2 (at st q.goal).g (least 0 f.w1 q.anchor.now st)) (seen_is space v vw vn n)

    pub settles_stop : DueWithin v.size.vertices t → (t ≡ Finished → ⊥) → Settles q space route left p (record { step = t; progress = p }) space route
    settles_stop b o =
        record {
          lent = lent_same space;
          settles =
              λ c s a k l.
              settle_stop c space.size q s p (space_words space) route a k left t (omega arith)
              (step_is c space.size q s p (space_words space) route a k schedule f t d e found) (subst (λ (z : Size). DueWithin z.vertices t) n b) o;
        }

    pub settles_on :
        (r : Progress) (space' : Workspace) (route' : List ℕ) (y : Standing) (space'' : Workspace) (route'' : List ℕ) → t ≡ Finished →
        RoundEnds q space route left p r space' route' → Settles q space' route' (left - 1) r y space'' route'' → Settles q space route left p y space'' route''
    unfolding end_round ended
    settles_on r space' route' y space'' route'' fin ends rest =
        record {
          lent = lent_then space space' space'' ends.lent rest.lent;
          settles =
              λ c s a k l.
              let u = step_is c space.size q s p (space_words space) route a k schedule f t d e found in
              let i : s.progress.rounds < length (job_of c).schedule = omega (arith, l) in
              rw (settle_on c space.size q s p (space_words space) route a k left t (omega arith) u fin)
              (rest.settles c (end_round (job_of c) s) (asking_then c q space space' ends.lent a) (ends.ends c s a k l i (sym u ∙ fin)) (omega (arith, l, i)));
        }

-- ---- the loop: what the rest of the rounds does, `left` of them, is what all of those from space₀ on do

pub record Rest (q : Asked) (space₀ : Workspace) (route₀ : List ℕ) (left₀ : ℕ) (p₀ : Progress) (space : Workspace) (route : List ℕ) (left : ℕ) (p : Progress) : Type 0 where
  pub settling : Settling q space route left p
  pub rest :
      (r : Standing) (space' : Workspace) (route' : List ℕ) → Settles q space route left p r space' route' → Settles q space₀ route₀ left₀ p₀ r space' route'

pub rest_all : (q : Asked) (space : Workspace) (route : List ℕ) (left : ℕ) (p : Progress) → Settling q space route left p → Rest q space route left p space route left p
rest_all q space route left p h = record { settling = h; rest = λ r space' route' s. s }

module _ (q : Asked) (space₀ : Workspace) (route₀ : List ℕ) (left₀ : ℕ) (p₀ : Progress) (space : Workspace) (route : List ℕ) (left : ℕ) (p : Progress)
    (k : Rest q space₀ route₀ left₀ p₀ space route left p) where
  pub rest_none : left ≡ 0 → Settles q space₀ route₀ left₀ p₀ (record { step = Finished; progress = p }) space route
  rest_none e = k.rest _ space route (settles_none q space route left p e)

  module _ (some : left ≡ 0 → ⊥) (schedule : List ℕ) (d : schedule ≡ taken q) (f : Factors) (e : f ≡ get_or (pairs schedule) p.rounds (record { w1 = 0; w2 = 0 }))
      (v : Vertices) (vw : v.work.now ≡ space.work.now) (vn : v.wide.now ≡ space.wide.now) (n : v.size ≡ space.size)
      (t : Step) (g : t ≡ step_one f.w2 (at (vertices_seen v) q.goal).g (least 0 f.w1 q.anchor.now (vertices_seen v))) where
    pub rest_stop : DueWithin v.size.vertices t → (t ≡ Finished → ⊥) → Settles q space₀ route₀ left₀ p₀ (record { step = t; progress = p }) space route
    rest_stop b o = k.rest _ space route (settles_stop q space route left p some schedule d f e v vw vn n t g b o)

    pub rest_less :
        (fewer : ℕ) (r : Progress) (space' : Workspace) (route' : List ℕ) → fewer ≡ left - 1 → t ≡ Finished → RoundEnds q space route left p r space' route' →
        Rest q space₀ route₀ left₀ p₀ space' route' fewer r
    rest_less fewer r space' route' i fin y =
        rw i
        (record {
          settling = settling_on q space route left p k.settling some schedule d f e v vw vn n t g fin r space' route' y;
          rest =
              λ u space'' route'' s.
              k.rest u space'' route'' (settles_on q space route left p some schedule d f e v vw vn n t g r space' route' u space'' route'' fin y s);
        })

-- What a call that is not refused gives the code: numbers in range, tables and memory long enough.
use Prim.Native.Nat.{ℕ, ◌*◌, ◌≤◌, ◌<◌}
use native.Mathlib.Nat.{mul-le-mul_right}
use native.Mathlib.Omega.{arith}
use mathlib.Core.Path.{◌≡◌, sym, ap, ◌∙◌}
use mathlib.Core.List.{List}
use lib.ListN.{length, get_or}
use Rattle.graph.specs.Limits.{max_vertices}
use Rattle.graph.proofs.Within.{accepted_within}
use Rattle.search.specs.Job.{State, factors}
use Rattle.search.specs.Call.{Call, schedule_of, pairs, plan_edges, job_of}
use Rattle.search.specs.Bounds.{Priced}
use Rattle.search.specs.Admitted.{Admissible}
use Rattle.search.proofs.Facts.{Valid, InRange}
use Rattle.search.proofs.Admitted.{clear, admitted, plan_edges_lem, job_schedule}
use Rattle.search.proofs.Legal.{between, priced}
use Rattle.graph.specs.declared.Size.{Size}
use Rattle.workspace.specs.Layout.{base, Words, Room, vertices_of}
use Rattle.workspace.proofs.Holding.{holds_vertices}
use Rattle.admission.specs.declared.Call.{Call as Asked}
use Rattle.planner.specs.Carried.{Fits, Asking, words_of, Carries}
use Rattle.search.specs.declared.Progress.{Progress}
use Rattle.admission.specs.Admission.{taken}
use Rattle.search.proofs.Words.{route_kept}
use Rattle.planner.proofs.Jobs.{Accepted, accepts, job_size, job_factors}

module _ (c : Call) (z : Size) (a : Fits c z) where
  plan : Accepted c
  plan = accepts c a.admitted

  rows : Admissible c plan.v plan.es
  rows = clear c plan.v plan.es plan.rows

  valid : Valid (job_of c)
  valid = admitted c a.admitted

  same : z.vertices ≡ plan.v
  same = a.vertices ∙ job_size c plan

  pub start_within : c.start < z.vertices
  start_within = omega (arith, rows.starts, same)

  pub goal_within : c.goal < z.vertices
  goal_within = omega (arith, rows.ends, same)

  pub anchor_enough : z.vertices ≤ length c.anchor
  anchor_enough = omega (arith, rows.anchored, same)

  pub small : z.vertices ≤ max_vertices
  small = omega (arith, (accepted_within c.bytes plan.v plan.es plan.plan).vertices, same)

  pub few : c.count ≤ 8
  few = rows.few

  pub sheets_long : (i : ℕ) (guides : List ℕ) → i ≤ c.count → guides ≡ c.sheets → i * z.vertices ≤ length guides
  sheets_long i guides h e =
      omega (arith, ap length e, rows.guided, ap (λ (n : ℕ). c.count * n) same, ap (λ (n : ℕ). i * n) same, mul-le-mul_right plan.v h)

  pub in_range : (r : ℕ) → r < length (job_of c).schedule → InRange (factors (job_of c) r).w1 (factors (job_of c) r).w2
  in_range r h = valid.range r h

  pub route_room : z.vertices ≤ length c.memory.route
  route_room = omega (arith, rows.route_room, same)

  pub words_room : Room z (words_of c.memory)
  unfolding base
  words_room =
      record {
        work = omega (arith, rows.work_room, same, a.edges, ap length (plan_edges_lem c plan.v plan.es plan.plan));
        wide = omega (arith, rows.wide_room, same);
      }

  -- at most 16 rounds, of two factors each
  pub schedule_short : length (schedule_of c) ≤ 32
  schedule_short = omega (arith, rows.schedule.few, rows.schedule.two)

-- the arguments that the code has
module _ (c : Call) (z : Size) (q : Asked) (a : Asking c z q) where
  pub start_in : q.start < z.vertices
  start_in = omega (arith, start_within c z a.fits, a.start)

  pub goal_in : q.goal < z.vertices
  goal_in = omega (arith, goal_within c z a.fits, a.goal)

  pub anchor_long : z.vertices ≤ length q.anchor.now
  anchor_long = omega (arith, ap length a.anchor_is, anchor_enough c z a.fits)

  -- the schedule that it takes
  module _ (schedule : List ℕ) (d : schedule ≡ taken q) where
    picked : schedule ≡ schedule_of c
    picked = d ∙ a.schedule_is

    pub rounds_asks : length schedule ≤ 32
    rounds_asks = omega (arith, ap length picked, schedule_short c z a.fits)

    -- the rounds that it counts
    pub rounds_are : length (pairs schedule) ≡ length (job_of c).schedule
    rounds_are = ap (λ (l : List ℕ). length (pairs l)) picked ∙ sym (ap length (job_schedule c))

    -- the factors that it finds
    pub factors_are : (r : ℕ) → get_or (pairs schedule) r (record { w1 = 0; w2 = 0 }) ≡ factors (job_of c) r
    factors_are r = ap (λ (l : List ℕ). get_or (pairs l) r (record { w1 = 0; w2 = 0 })) picked ∙ sym (job_factors c r)

-- the costs in memory are such that the code may reckon with them
pub priced_in :
    (c : Call) (z : Size) → Fits c z → (s : State) (p : Progress) (m : Words) (route : List ℕ) → Carries c z s p m route → Priced (vertices_of z m)
priced_in c z a s p m route k =
    let v : Valid (job_of c) = admitted c a.admitted in
    rw (holds_vertices z (plan_edges c) s.vertices (words_of c.memory) m k.words)
    (priced (job_of c) v s.vertices (between (job_of c) v k.ok.reach).ground (omega (arith, small c z a, a.vertices)))

-- route memory has V words
pub route_long :
    (c : Call) (z : Size) → Fits c z → (s : State) (p : Progress) (m : Words) (route : List ℕ) → Carries c z s p m route → z.vertices ≤ length route
route_long c z a s p m route k =
    omega (
      arith,
      ap length k.kept,
      route_kept (job_of c) s c.memory.route (λ l. (k.ok.kept.route l).short) (omega (arith, route_room c z a, a.vertices)),
      route_room c z a,
    )

-- Why there is no route: what is listed is what a walk leads to, and the barred edges that leave it; and when an inquiry is refused.
use mathlib.Core.Path.{◌≡◌, refl, sym, ◌∙◌, subst}
use mathlib.Core.Logic.{◌↔◌}
use mathlib.Core.Bool.{Bool, true, false, true≢false, cond, ◌&&◌, ◌||◌}
use mathlib.Core.List.{List, [], ◌∷◌, ◌++◌, Memᴰ}
use Prim.Native.Nat.{ℕ, ◌≤◌, ◌<◌}
use native.Mathlib.Nat.{zero-add}
use native.Mathlib.Omega.{arith}
use lib.ListN.{length, get_or}
use lib.Dec.{ltb}
use mir.Facts.{ltb_no, or_no}
use borrow.Author.Tests.{lt-ltb, le-ltb, ltb-true, ltb-false}
use Rattle.graph.specs.declared.refusal.Cause.{Cause}
use Rattle.graph.specs.declared.refusal.Cause.TheVariants as cause
use Rattle.graph.specs.declared.Edge.{Edge}
use Rattle.graph.specs.Plan.{Decoded, accepted, refused, decode}
use Rattle.graph.specs.Lists.{Fault, none, fault, edges_in}
use Rattle.graph.proofs.Plan.{fault≢none}
use Rattle.graph.proofs.Tests.{and_true, not_true}
use Rattle.graph.proofs.Within.{accepted_within}
use Rattle.search.specs.declared.Vertex.{Vertex}
use Rattle.search.specs.declared.Answer.{Answer}
use Rattle.search.specs.declared.Answer.TheVariants.{Route, NoRoute, Unfinished}
use Rattle.std.specs.Prelude.{Result, Ok, Err}
use Rattle.graph.specs.declared.refusal.Refusal.{Refusal}
use Rattle.graph.specs.Refusal.{refusal_of}
use Rattle.search.specs.declared.Answer.TheVariants
use Rattle.search.specs.declared.Step.TheVariants.{Stuck}
use Rattle.search.specs.Walk.{Walk, NoWalk, here}
use Rattle.search.specs.Permitted.{barred_by}
use Rattle.search.specs.Job.{Job, unreached, fresh, at}
use Rattle.search.specs.Rounds.{begin, run, search}
use Rattle.search.specs.Call.{Call, schedule_of, row, first, ends_row, tables_row, memory_row, goal_row, call_rows, anchor_rows, fault_in, fault_of, plan_edges, job_in, job_from, job_of}
use Rattle.search.specs.Outcome.{no_route, figures, outcome, answer_of, answer_in, answer, memory_in, memory_after}
use Rattle.search.specs.Reason.{Inquiry, lists_row, inquiry_fault_in, inquiry_fault, answered, call_memory, numbers_of, is_reached, leaves, last_vertices, reached, leaving, listed_at, vertices_listed, edges_listed, Leaves, Reason, ListRoom, without_route, Reasoned}
use Rattle.search.proofs.Tools.{le_cases, reached_inside, any_default}
use Rattle.search.proofs.Facts.{Valid}
use Rattle.search.proofs.Paths.{further, path_of, walk_of}
use Rattle.search.proofs.Standing.{begin_good, run_good}
use Rattle.search.proofs.Legal.{between}
use Rattle.search.proofs.Lawful.{no_route_reached}
use Rattle.search.proofs.Permitted.{set_bit, bit_set}
use Rattle.search.proofs.Admitted.{exact, admitted, first_none, row_none}
use Rattle.search.proofs.Guarantee.{code, apart, ended, by_none, guaranteed}
use Rattle.search.proofs.Numbers.{Passes, numbers_pass, pass_numbers, numbers_rise, numbers_few}

-- ---- the set

module _ (st : List Vertex) where
  abbrev set : List ℕ
  set = numbers_of is_reached 0 st

  set_reached : (x : ℕ) → Memᴰ x set → (at st x).g < unreached
  unfolding is_reached at
  set_reached x m =
      let p = numbers_pass is_reached 0 st x m in
      let e : x ≡ p.place = omega (arith, p.is) in
      rw e (ltb-true _ _ (p.passes fresh))

  reached_set : (x : ℕ) → (at st x).g < unreached → Memᴰ x set
  unfolding is_reached at
  reached_set x k =
      subst (λ (n : ℕ). Memᴰ n set) (zero-add x) (pass_numbers is_reached 0 st x fresh (reached_inside st x k) (lt-ltb _ _ k))

  -- ---- the edges that leave it

  module _ (b : ℕ) (es : List Edge) (j : ℕ) where
    passes_leaves : Passes (leaves b st) 0 es j → Leaves b es set j
    unfolding leaves is_reached
    passes_leaves p =
        let other : Edge = record { tail = 0; head = 0; cost = 0; class = 0 } in
        let e : Edge = get_or es p.place other in
        let i : p.place ≡ j = omega (arith, p.is) in
        let t = and_true (barred_by b e.class && is_reached (at st e.tail)) _ (p.passes other) in
        let u = and_true (barred_by b e.class) _ t.0 in
        record {
          edge = e;
          number = rw (← i) p.number;
          is = λ d. rw (← i) (any_default es p.place p.number d other);
          class = set_bit b e.class u.0;
          inside = reached_set e.tail (ltb-true _ _ u.1);
          outside = λ m. true≢false (sym (lt-ltb _ _ (set_reached e.head m)) ∙ not_true _ t.1);
        }

    leaves_passes : (l : Leaves b es set j) → leaves b st l.edge ≡ true
    unfolding leaves is_reached
    leaves_passes l =
        let out : ltb (at st l.edge.head).g unreached ≡ false
        = le-ltb _ _ (le_cases unreached (at st l.edge.head).g (λ h. h) (λ h. absurd (l.outside (reached_set l.edge.head h)))) in
        rw (bit_set b l.edge.class l.class, lt-ltb _ _ (set_reached l.edge.tail l.inside), out)

    leaves_exact : Memᴰ j (numbers_of (leaves b st) 0 es) ↔ Leaves b es set j
    leaves_exact = (
      λ m. passes_leaves (numbers_pass (leaves b st) 0 es j m),
      λ l.
          subst (λ (n : ℕ). Memᴰ n (numbers_of (leaves b st) 0 es)) (zero-add j)
          (pass_numbers (leaves b st) 0 es j l.edge l.number (rw (l.is l.edge) (leaves_passes l))),
    )

-- ---- where the search ends with nothing open

module _ (job : Job) (v : Valid job) (n : ℕ) (stuck : (run job n (begin job)).step ≡ Stuck) (no_goal : (r : List ℕ) (k : ℕ) → Walk job.edges job.start job.goal r k → ⊥) where
  abbrev st : List Vertex
  st = (run job n (begin job)).state.vertices

  walks : (x : ℕ) → Memᴰ x (set st) ↔ ((k : ℕ) × (r : List ℕ) × Walk job.edges job.start x r k)
  walks x =
      let e = no_route_reached job v n stuck x in (
        λ m. e.0 (set_reached st x m),
        λ w. reached_set st x (e.1 w),
      )

  reason_at : (b : ℕ) (es : List Edge) → Reason job b es (set st) (numbers_of (leaves b st) 0 es)
  reason_at b es =
      record {
        start = (walks job.start).1 (0, job.start ∷ [], here job.start);
        goal = λ m. let w = (walks job.goal).0 m in no_goal w.1 w.0 w.2;
        closed = λ e m t.
            let w = (walks e.tail).0 t in
            let s = walk_of (further (path_of w.2) e m refl) in
            (walks e.head).1 (_, s.route, s.walk);
        walks = walks;
        rising = numbers_rise is_reached 0 st;
        leaves = leaves_exact st b es;
        in_order = numbers_rise (leaves b st) 0 es;
      }

-- ---- refusals

-- one row more, after the rows qs and before the rows rs
module _ (r : Fault) (rs : List Fault) where
  row_clear : (qs : List Fault) → r ≡ none → first (qs ++ (r ∷ rs)) ≡ first (qs ++ rs)
  unfolding first
  row_clear [] e = rw e
  row_clear (none ∷ qs) e = row_clear qs e
  row_clear (fault n p ∷ qs) e = refl

  clear_row : (qs : List Fault) → first (qs ++ (r ∷ rs)) ≡ none → r ≡ none
  unfolding first
  clear_row [] h = (first_none r rs h).0
  clear_row (none ∷ qs) h = clear_row qs h
  clear_row (fault n p ∷ qs) h = absurd (fault≢none h)

module _ (x : Inquiry) where
  abbrev c : Call
  c = x.call

  lists_clear : (v m : ℕ) → v ≤ length x.vertices → m ≤ length x.edges → lists_row x v m ≡ none
  unfolding lists_row row
  lists_clear v m a b = rw (le-ltb (length x.vertices) v a, le-ltb (length x.edges) m b)

  clear_lists : (v m : ℕ) → lists_row x v m ≡ none → (v ≤ length x.vertices) × (m ≤ length x.edges)
  unfolding lists_row
  clear_lists v m h = let t = or_no (ltb (length x.vertices) v) _ (row_none _ cause.Memory 0 h) in (ltb_no t.0, ltb_no t.1)

  own_by : (d : Decoded) → (job_from c d).size ≤ length x.vertices → length (edges_in d) ≤ length x.edges → inquiry_fault_in x d ≡ fault_in c d
  unfolding inquiry_fault_in fault_in job_from job_in edges_in
  own_by (accepted v es) a b = row_clear (lists_row x v (length es)) (anchor_rows c es) (call_rows c v (length es)) (lists_clear v (length es) a b)
  own_by (refused n p) a b = refl

  room_by : (d : Decoded) → inquiry_fault_in x d ≡ none → ((job_from c d).size ≤ length x.vertices) × (length (edges_in d) ≤ length x.edges)
  unfolding inquiry_fault_in job_from job_in edges_in
  room_by (accepted v es) h = clear_lists v (length es) (clear_row (lists_row x v (length es)) (anchor_rows c es) (call_rows c v (length es)) h)
  room_by (refused n p) h = absurd (fault≢none h)

  pub own : ListRoom x → inquiry_fault x ≡ fault_of c
  unfolding inquiry_fault fault_of job_of plan_edges
  own r = own_by (decode c.bytes) r.vertices r.edges

  pub roomy : inquiry_fault x ≡ none → ListRoom x
  unfolding inquiry_fault job_of plan_edges
  roomy h = let r = room_by (decode c.bytes) h in record { vertices = r.0; edges = r.1 }

  pub unrefused : inquiry_fault x ≡ none → fault_of c ≡ none
  unrefused h = sym (own (roomy h)) ∙ h

  -- a list is too short: the rows before 11, the call's own 11 or none, and 11
  eleven : (p q r : Fault) (t : Bool) (ss us : List Fault) → first (p ∷ q ∷ r ∷ row t cause.Memory 0 ∷ fault cause.Memory 0 ∷ ss) ≡ first (p ∷ q ∷ r ∷ fault cause.Memory 0 ∷ us)
  unfolding first row
  eleven (fault i j) q r t ss us = refl
  eleven none (fault i j) r t ss us = refl
  eleven none none (fault i j) t ss us = refl
  eleven none none none true ss us = refl
  eleven none none none false ss us = refl

  none_lent : (v m : ℕ) → 1 ≤ v → memory_row (without_route c) v m ≡ fault cause.Memory 0
  unfolding memory_row row
  none_lent v m l = rw (lt-ltb 0 v l)

  lists_short : (v m : ℕ) → ((v ≤ length x.vertices) × (m ≤ length x.edges) → ⊥) → lists_row x v m ≡ fault cause.Memory 0
  unfolding lists_row row
  lists_short v m n = by (ltb (length x.vertices) v) (ltb (length x.edges) m) refl refl
    where
      by : (a b : Bool) → ltb (length x.vertices) v ≡ a → ltb (length x.edges) m ≡ b → cond (a || b) (fault cause.Memory 0) none ≡ fault cause.Memory 0
      by true b e f = refl
      by false true e f = refl
      by false false e f = absurd (n (ltb-false _ _ e, ltb-false _ _ f))

  short_by :
      (d : Decoded) → decode c.bytes ≡ d → (((job_from c d).size ≤ length x.vertices) × (length (edges_in d) ≤ length x.edges) → ⊥) →
      inquiry_fault_in x d ≡ fault_in (without_route c) d
  unfolding inquiry_fault_in fault_in ends_row tables_row schedule_of goal_row job_from job_in edges_in
  short_by (accepted v es) d n =
      rw (lists_short v (length es) n, none_lent v (length es) (accepted_within c.bytes v es d).some)
      (unfold memory_row in (eleven _ _ _ _ (anchor_rows c es) (anchor_rows c es)))
  short_by (refused i p) d n = refl

  pub short : (ListRoom x → ⊥) → inquiry_fault x ≡ fault_of (without_route c)
  unfolding inquiry_fault fault_of job_of plan_edges
  short n = short_by (decode c.bytes) refl (λ r. n (record { vertices = r.0; edges = r.1 }))

  refusal : (n : Cause) (p : ℕ) → inquiry_fault x ≡ fault n p → (answered x ≡ Err (refusal_of n p)) × (call_memory x ≡ c.memory)
  unfolding answered call_memory answer_in memory_in
  refusal n p e = rw e (refl, refl)

  same : inquiry_fault x ≡ none → (answered x ≡ answer c) × (call_memory x ≡ memory_after c)
  unfolding answered call_memory answer memory_after
  same e = (rw (e, unrefused e), rw (e, unrefused e))

  -- ---- what is listed

  listed_all : (a : Result Answer Refusal) (l : List ℕ) → (figures a).ending ≡ no_route → listed_at a l ≡ l
  unfolding listed_at figures code
  listed_all (Ok (TheVariants.Route s)) l h = absurd (apart h tt)
  listed_all (Ok (NoRoute t)) l h = refl
  listed_all (Ok (Unfinished t)) l h = absurd (apart h tt)
  listed_all (Err e) l h = absurd (apart h tt)

  listed_none : (a : Result Answer Refusal) (l : List ℕ) → ((figures a).ending ≡ no_route → ⊥) → listed_at a l ≡ []
  unfolding listed_at figures
  listed_none (Ok (TheVariants.Route s)) l h = refl
  listed_none (Ok (NoRoute t)) l h = absurd (h refl)
  listed_none (Ok (Unfinished t)) l h = refl
  listed_none (Err e) l h = refl

  listed_few : (a : Result Answer Refusal) (l : List ℕ) → length (listed_at a l) ≤ length l
  unfolding listed_at
  listed_few (Ok (TheVariants.Route s)) l = omega arith
  listed_few (Ok (NoRoute t)) l = omega arith
  listed_few (Ok (Unfinished t)) l = omega arith
  listed_few (Err e) l = omega arith

  -- only a call that is not refused ends without a route
  fault_none : (f : Fault) → inquiry_fault x ≡ f → (figures (answer_in c f)).ending ≡ no_route → inquiry_fault x ≡ none
  unfolding answer_in figures code
  fault_none none e h = e
  fault_none (fault n p) e h = absurd (apart h tt)

  pub no_fault : (figures (answered x)).ending ≡ no_route → inquiry_fault x ≡ none
  unfolding answered
  no_fault h = fault_none (inquiry_fault x) refl h

  module _ (e : inquiry_fault x ≡ none) where
    valid : Valid (job_of c)
    valid = admitted c (unrefused e)

    pub sized : length (last_vertices c) ≡ (job_of c).size
    unfolding last_vertices outcome search
    sized = (between (job_of c) valid (run_good (job_of c) valid c.budget (begin (job_of c)) (begin_good (job_of c) valid)).ok.reach).ground.sized

    reason_of : (figures (answer c)).ending ≡ no_route → Reason (job_of c) c.barred (plan_edges c) (reached c) (leaving c)
    unfolding reached leaving last_vertices outcome search answer answer_in NoWalk
    reason_of h =
        let v : Valid (job_of c) = valid in
        let stuck = by_none (job_of c) v c.budget (answer_of (job_of c) (run (job_of c) c.budget (begin (job_of c)))) (ended (job_of c) _) (rw (unrefused e) at h) in
        reason_at (job_of c) v c.budget stuck (((guaranteed c).guarantee (unrefused e)).no_walk h) c.barred (plan_edges c)

    list_rooms : (length (reached c) ≤ length x.vertices) × (length (leaving c) ≤ length x.edges)
    unfolding reached leaving
    list_rooms = (
      omega (arith, numbers_few is_reached 0 (last_vertices c), sized, (roomy e).vertices),
      omega (arith, numbers_few (leaves c.barred (last_vertices c)) 0 (plan_edges c), (roomy e).edges),
    )

  reason : (figures (answered x)).ending ≡ no_route → Reason (job_of c) c.barred (plan_edges c) (vertices_listed x) (edges_listed x)
  unfolding vertices_listed edges_listed
  reason h =
      let e : inquiry_fault x ≡ none = no_fault h in
      rw (listed_all (answered x) (reached c) h, listed_all (answered x) (leaving c) h) (reason_of e (rw (same e).0 at h))

  fits : (length (vertices_listed x) ≤ length x.vertices) × (length (edges_listed x) ≤ length x.edges)
  unfolding vertices_listed edges_listed answered
  fits = by (inquiry_fault x) refl
    where
      by : (f : Fault) → inquiry_fault x ≡ f → (length (listed_at (answer_in c f) (reached c)) ≤ length x.vertices) × (length (listed_at (answer_in c f) (leaving c)) ≤ length x.edges)
      by none e = (
        omega (arith, listed_few (answer_in c none) (reached c), (list_rooms e).0),
        omega (arith, listed_few (answer_in c none) (leaving c), (list_rooms e).1),
      )
      by (fault n p) e = unfold answer_in listed_at in (omega arith, omega arith)

pub reasoned : (x : Inquiry) → Reasoned x
reasoned x =
    record {
      exact = (
        λ h. ((exact x.call).0 (unrefused x h), roomy x h),
        λ y. own x y.1 ∙ (exact x.call).1 y.0,
      );
      own = own x;
      short = short x;
      refusal = refusal x;
      same = same x;
      reason = reason x;
      silent = λ h. unfold vertices_listed edges_listed in (listed_none x (answered x) (reached x.call) h, listed_none x (answered x) (leaving x.call) h);
      fits = fits x;
    }

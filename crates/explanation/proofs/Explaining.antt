-- The call that an explanation makes, refused as the inquiry is, and the lists after it, as the definitions have them.
use Prim.Native.Nat.{ℕ, ◌≤◌}
use native.Mathlib.Omega.{arith}
use mathlib.Core.Path.{◌≡◌, refl, sym, ap, ◌∙◌, subst}
use mathlib.Core.Bool.{Bool, true, false, true≢false, cond, ◌||◌}
use mathlib.Core.List.{List, ◌++◌, append-nil}
use lib.ListN.{length, take, drop}
use lib.Seq.{take-length, take-append_seam, drop-length}
use lib.Dec.{ltb}
use borrow.Author.Tests.{le-ltb, ltb-false}
use Rattle.graph.specs.declared.Edge.{Edge}
use Rattle.graph.specs.Plan.{Decoded, accepted, refused, header, decode}
use Rattle.graph.proofs.Tests.{or_false, or_left, or_right}
use Rattle.graph.specs.Lists.{Fault, none, fault, over, edges_in}
use Rattle.search.specs.declared.Vertex.{Vertex}
use Rattle.search.specs.declared.Answer.{Answer}
use Rattle.std.specs.Prelude.{Result, Err}
use Rattle.graph.specs.declared.refusal.Refusal.{Refusal}
use Rattle.graph.specs.Refusal.{refusal_of}
use Rattle.search.specs.declared.Explanation.{Explanation}
use Rattle.search.specs.Call.{Memory, Call, fault_in, fault_of, plan_edges, job_in, job_from, job_of}
use Rattle.search.specs.Admitted.{Admitted}
use Rattle.search.specs.Outcome.{work_words, wide_words, no_route, figures, answer_in, answer, memory_in, memory_after}
use Rattle.search.proofs.Admitted.{exact, plan_edges_lem}
use Rattle.search.specs.Reason.{Inquiry, inquiry_fault_in, inquiry_fault, answered, call_memory, numbers_of, is_reached, leaves, last_vertices, reached, leaving, vertices_listed, edges_listed, explanation, vertices_after, edges_after, Reason, ListRoom, lent}
use Rattle.search.proofs.Guarantee.{guaranteed, any_rule}
use Rattle.search.proofs.Reason as reason
use Rattle.search.proofs.Reason.{own, roomy, unrefused, sized, reasoned}
use Rattle.graph.specs.declared.Size.{Size}
use Rattle.workspace.specs.Layout as layout
use Rattle.workspace.specs.Layout.{base, vertices_of, graph_of}
use Rattle.workspace.specs.Holds.{Rising, Holds}
use Rattle.admission.proofs.Admits.{accepted_header}
use Rattle.planner.specs.Plan.{memory_of, Planned}
use Rattle.planner.specs.Carried.{words_of}
use Rattle.workspace.proofs.Holding.{accepted_rising, holds_vertices, holds_graph, holds_ready, holds_whole}
use Rattle.explanation.specs.Explained.{Explained}
use Rattle.explanation.specs.Listing.{size_in, is_no_route, Source, Listable, reached_in, leaving_in, Lists}
use Rattle.explanation.proofs.Lists.{same_listed}

same_explanation : {a b : Result Answer Refusal} {v w e f : ℕ} → a ≡ b → v ≡ w → e ≡ f →
    ◌≡◌ {A = Explanation Refusal} (record { answer = a; vertices = v; edges = e }) (record { answer = b; vertices = w; edges = f })
same_explanation p q r = rw (p, q, r)

-- ---- the first words of both lists, as many as are answered

module _ (x : Inquiry) (r : Explanation Refusal) (vertices edges : List ℕ) (e : r ≡ explanation x) where
  pub taken_vertices : vertices ≡ vertices_after x → take r.vertices vertices ≡ vertices_listed x
  unfolding vertices_after over explanation
  taken_vertices v =
      ap (λ (u : Explanation Refusal). take u.vertices vertices) e ∙ ap (take (length (vertices_listed x))) v ∙ take-append_seam (vertices_listed x) _

  pub taken_edges : edges ≡ edges_after x → take r.edges edges ≡ edges_listed x
  unfolding edges_after over explanation
  taken_edges w = ap (λ (u : Explanation Refusal). take u.edges edges) e ∙ ap (take (length (edges_listed x))) w ∙ take-append_seam (edges_listed x) _

-- ---- V and M

module _ (s : List ℕ) (v : ℕ) (es : List Edge) (d : decode s ≡ accepted v es) where
  header_size : size_in (header s) ≡ record { vertices = v; edges = length es }
  unfolding size_in
  header_size = ap size_in (accepted_header s v es d)

-- the call, lent this route memory
abbrev lending : List ℕ → Call → Call
lending route c = lent c (memory_of route c.memory.log c.memory.work c.memory.wide)

-- the call, lent n words of its route memory
abbrev pub lent_to : ℕ → Call → Call
lent_to n c = lending (take n c.memory.route) c

-- the memory of a call whose route memory is m's before the rest of what was lent
abbrev pub with_rest : ℕ → Call → Memory → Memory
with_rest n c m = memory_of (m.route ++ drop n c.memory.route) m.log m.work m.wide

module _ (x : Inquiry) (z : Size) (size_is : z ≡ size_in (header x.call.bytes)) where
  abbrev c : Call
  c = x.call

  -- a list is too short
  abbrev short : Bool
  short = ltb (length x.vertices) z.vertices || ltb (length x.edges) z.edges

  -- what is to be shown: the call answers as the inquiry does, and leaves what the lists are made of
  record Answers (a : Result Answer Refusal) (m : Memory) : Type 0 where
    answer_is : a ≡ answered x
    memory_is : m ≡ call_memory x
    source : is_no_route a ≡ true → Source z (words_of m) x.vertices x.edges
    vertices : is_no_route a ≡ true → vertices_of z (words_of m) ≡ last_vertices c
    edges : is_no_route a ≡ true → graph_of z m.work ≡ plan_edges c

  size_of : (y : Admitted c) → (job_of c).size ≡ y.size
  unfolding job_of job_from job_in
  size_of y = rw y.plan

  -- ---- memory after a call that is not refused holds the plan's edges and the vertices at the end of the search

  module _ (e : inquiry_fault x ≡ none) (m : Memory) (q : m ≡ memory_after c) where
    f : fault_of c ≡ none
    f = unrefused x e

    abbrev y : Admitted c
    y = (exact c).0 f

    size_there : z ≡ record { vertices = y.size; edges = length y.edges }
    size_there = size_is ∙ header_size c.bytes y.size y.edges y.plan

    plan_is : plan_edges c ≡ y.edges
    plan_is = plan_edges_lem c y.size y.edges y.plan

    vertex_count : z.vertices ≡ y.size
    vertex_count = ap (λ (u : Size). u.vertices) size_there

    edge_count : z.edges ≡ length y.edges
    edge_count = ap (λ (u : Size). u.edges) size_there

    work_is : m.work ≡ over (work_words (job_of c).size (plan_edges c) (last_vertices c)) c.memory.work
    unfolding memory_after memory_in last_vertices
    work_is = ap (λ (u : Memory). u.work) q ∙ rw f refl

    wide_is : m.wide ≡ over (wide_words (last_vertices c)) c.memory.wide
    unfolding memory_after memory_in last_vertices
    wide_is = ap (λ (u : Memory). u.wide) q ∙ rw f refl

    room_there : layout.Room z (words_of c.memory)
    unfolding base
    room_there =
        record {
          work = omega (arith, y.fits.work_room, vertex_count, edge_count);
          wide = omega (arith, y.fits.wide_room, vertex_count);
        }

    pub holds : Holds z (plan_edges c) (last_vertices c) (words_of c.memory) (words_of m)
    holds =
        record {
          words = work_is ∙ ap (λ (v : ℕ). over (work_words v (plan_edges c) (last_vertices c)) c.memory.work) (size_of y ∙ sym vertex_count);
          numbers = wide_is;
          room = room_there;
          vertices = sized x e ∙ size_of y ∙ sym vertex_count;
          edges = ap length plan_is ∙ sym edge_count;
          rising =
              subst (λ (es : List Edge). Rising z.vertices 0 es) (sym plan_is)
              (subst (λ (v : ℕ). Rising v 0 y.edges) (sym vertex_count) (accepted_rising c.bytes y.size y.edges y.plan));
        }

  -- ---- both lists have room

  module _ (h : short ≡ false) where
    rooms : (z.vertices ≤ length x.vertices) × (z.edges ≤ length x.edges)
    rooms = (ltb-false _ _ (or_left (ltb (length x.vertices) z.vertices) _ h), ltb-false _ _ (or_right (ltb (length x.vertices) z.vertices) _ h))

    room_by : (d : Decoded) → decode c.bytes ≡ d → ((job_from c d).size ≤ length x.vertices) × (length (edges_in d) ≤ length x.edges)
    unfolding job_from job_in edges_in
    room_by (accepted v es) d = rw (size_is, header_size c.bytes v es d) at rooms
    room_by (refused n p) d = (omega arith, omega arith)

    room : ListRoom x
    unfolding job_of plan_edges
    room = let r = room_by (decode c.bytes) refl in record { vertices = r.0; edges = r.1 }

    same_fault : inquiry_fault x ≡ fault_of c
    same_fault = own x room

    module _ (a : Result Answer Refusal) (m : Memory) (k : Planned c a m) where
      -- where there is no route, the call is not refused
      not_refused : is_no_route a ≡ true → fault_of c ≡ none
      unfolding answer is_no_route answer_in
      not_refused e = by (fault_of c) refl (subst (λ (y : Result Answer Refusal). is_no_route y ≡ true) k.answers e)
        where
          by : (f : Fault) → fault_of c ≡ f → is_no_route (answer_in c f) ≡ true → fault_of c ≡ none
          by none g t = g
          by (fault n p) g t = absurd (true≢false (sym t))

      holds_here : is_no_route a ≡ true → Holds z (plan_edges c) (last_vertices c) (words_of c.memory) (words_of m)
      holds_here e = holds (same_fault ∙ not_refused e) m k.memory_is

      answers_here : Answers a m
      unfolding answered call_memory answer memory_after
      answers_here =
          record {
            answer_is = k.answers ∙ ap (answer_in c) (sym same_fault);
            memory_is = k.memory_is ∙ ap (memory_in c) (sym same_fault);
            source = λ e.
                let o = holds_here e in
                record {
                  ready = holds_ready z _ _ _ _ o;
                  whole = holds_whole z _ _ _ _ o;
                  edge_count = ap length (holds_graph z _ _ _ _ o) ∙ o.edges;
                  vertices_room = rooms.0;
                  edges_room = rooms.1;
                };
            vertices = λ e. holds_vertices z _ _ _ _ (holds_here e);
            edges = λ e. holds_graph z _ _ _ _ (holds_here e);
          }

    -- all of route memory is lent on
    whole_lent : (a : Result Answer Refusal) (m : Memory) → Planned (lent_to (length c.memory.route) c) a m → Answers a (with_rest (length c.memory.route) c m)
    whole_lent a m p =
        let rest : m.route ++ drop (length c.memory.route) c.memory.route ≡ m.route
        = ap (λ (l : List ℕ). m.route ++ l) (drop-length c.memory.route) ∙ append-nil m.route in
        subst (λ (r : List ℕ). Answers a (memory_of r m.log m.work m.wide)) (sym rest)
        (answers_here a m (subst (λ (r : List ℕ). Planned (lending r c) a m) (take-length c.memory.route) p))

  -- ---- a list is too short: no route memory is lent on, and the call is refused as the inquiry is

  module _ (h : short ≡ true) where
    not_roomy : (v : ℕ) (es : List Edge) → decode c.bytes ≡ accepted v es → ListRoom x → ⊥
    unfolding job_of job_from job_in
    not_roomy v es d r =
        let s : z ≡ record { vertices = v; edges = length es } = size_is ∙ header_size c.bytes v es d in
        let size : (job_of c).size ≡ v = rw d in
        let l : z.vertices ≤ length x.vertices = omega (arith, ap (λ (u : Size). u.vertices) s, size, r.vertices) in
        let m : z.edges ≤ length x.edges = omega (arith, ap (λ (u : Size). u.edges) s, ap length (plan_edges_lem c v es d), r.edges) in
        true≢false (sym h ∙ or_false _ _ (le-ltb _ _ l) (le-ltb _ _ m))

    same_refusal : inquiry_fault x ≡ fault_of (lent_to 0 c)
    unfolding inquiry_fault inquiry_fault_in fault_of fault_in
    same_refusal = by (decode c.bytes) refl
      where
        by : (d : Decoded) → decode c.bytes ≡ d → inquiry_fault x ≡ fault_of (lent_to 0 c)
        by (accepted v es) d = reason.short x (not_roomy v es d)
        by (refused n p) d = rw d

    some_fault : inquiry_fault x ≡ none → ⊥
    some_fault e = let y : Admitted c = (exact c).0 (unrefused x e) in not_roomy y.size y.edges y.plan (roomy x e)

    module _ (a : Result Answer Refusal) (m : Memory) (k : Planned (lent_to 0 c) a m) where
      refused_there : (f : Fault) → inquiry_fault x ≡ f → fault_of (lent_to 0 c) ≡ f → Answers a (with_rest 0 c m)
      unfolding answered call_memory answer memory_after answer_in memory_in is_no_route
      refused_there none e g = absurd (some_fault e)
      refused_there (fault n p) e g =
          let q : a ≡ Err (refusal_of n p) = k.answers ∙ rw g refl in
          let u : m ≡ (lent_to 0 c).memory = k.memory_is ∙ rw g refl in
          record {
            answer_is = q ∙ rw e refl;
            memory_is = ap (with_rest 0 c) u ∙ rw e refl;
            source = λ t. absurd (true≢false (sym t ∙ ap is_no_route q));
            vertices = λ t. absurd (true≢false (sym t ∙ ap is_no_route q));
            edges = λ t. absurd (true≢false (sym t ∙ ap is_no_route q));
          }

  -- ---- in either case

  module _ (n : ℕ) (words : n ≡ cond short 0 (length c.memory.route)) where
    module _ (a : Result Answer Refusal) (m : Memory) (k : Planned (lent_to n c) a m) where
      answers : Answers a (with_rest n c m)
      answers = by short refl words
        where
          by : (b : Bool) → short ≡ b → n ≡ cond b 0 (length c.memory.route) → Answers a (with_rest n c m)
          by true h e =
              subst (λ (i : ℕ). Planned (lent_to i c) a m → Answers a (with_rest i c m)) (sym e)
              (λ p. refused_there h a m p (inquiry_fault x) refl (sym (same_refusal h))) k
          by false h e =
              subst (λ (i : ℕ). Planned (lent_to i c) a m → Answers a (with_rest i c m)) (sym e) (whole_lent h a m) k

      pub listable : Listable a z (words_of m) x.vertices x.edges
      listable e = answers.source e

      module _ (r : Explanation Refusal) (vertices edges : List ℕ) (l : Lists a z c.barred (words_of m) x.vertices x.edges r vertices edges) where
        vertices_same : reached_in a z (words_of m) ≡ vertices_listed x
        unfolding reached_in vertices_listed reached
        vertices_same =
            same_listed a (answered x) _ _ answers.answer_is (λ e. ap (λ (st : List Vertex). numbers_of is_reached 0 st) (answers.vertices e))

        edges_same : leaving_in a z c.barred (words_of m) ≡ edges_listed x
        unfolding leaving_in edges_listed leaving
        edges_same =
            same_listed a (answered x) _ _ answers.answer_is
            (λ e.
            ap (λ (st : List Vertex). numbers_of (leaves c.barred st) 0 (graph_of z m.work)) (answers.vertices e)
            ∙ ap (λ (es : List Edge). numbers_of (leaves c.barred (last_vertices c)) 0 es) (answers.edges e))

        answers_are : r ≡ explanation x
        unfolding explanation
        answers_are =
            same_explanation (l.answer_is ∙ answers.answer_is) (l.vertex_count ∙ ap length vertices_same) (l.edge_count ∙ ap length edges_same)

        vertices_there : vertices ≡ vertices_after x
        unfolding vertices_after
        vertices_there = l.vertices_are ∙ ap (λ (new : List ℕ). over new x.vertices) vertices_same

        edges_there : edges ≡ edges_after x
        unfolding edges_after
        edges_there = l.edges_are ∙ ap (λ (new : List ℕ). over new x.edges) edges_same

        says : (figures r.answer).ending ≡ no_route →
            Reason (job_of c) c.barred (plan_edges c) (take r.vertices vertices) (take r.edges edges)
        unfolding explanation
        says e =
            rw (taken_vertices x r vertices edges answers_are vertices_there, taken_edges x r vertices edges answers_are edges_there)
            ((reasoned x).reason (ap (λ (u : Explanation Refusal). (figures u.answer).ending) (sym answers_are) ∙ e))

        pub explained : Explained x r (with_rest n c m) vertices edges
        explained =
            record {
              answers = answers_are;
              memory_is = answers.memory_is;
              vertices_are = vertices_there;
              edges_are = edges_there;
              reasoned = reasoned x;
              says = says;
              promise = guaranteed c;
              any_rule = any_rule c;
            }

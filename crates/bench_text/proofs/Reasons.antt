-- What an explanation leaves in memory has the lines that are printed of it.
use Prim.Native.Nat.{ℕ, ◌≤◌, ◌<◌}
use native.Mathlib.Omega.{arith}
use mathlib.Core.Path.{◌≡◌, refl, sym, ap, ◌∙◌}
use mathlib.Core.List.{List}
use lib.ListN.{length, get_or, take, length-take}
use Rattle.graph.specs.declared.Edge.{Edge}
use Rattle.graph.specs.Plan.{header}
use Rattle.graph.specs.Lists.{none}
use Rattle.graph.specs.OneForm.{EdgeWithin, Within}
use Rattle.graph.proofs.Within.{accepted_within}
use Rattle.text.proofs.Lengths.{length_barred_line}
use Rattle.std.specs.Prelude.{Result}
use Rattle.graph.specs.declared.refusal.Refusal.{Refusal}
use Rattle.search.specs.declared.Answer.{Answer}
use Rattle.search.specs.declared.Explanation.{Explanation}
use Rattle.search.specs.Call.{Memory, Call, plan_edges}
use Rattle.search.specs.Admitted.{Admitted}
use Rattle.search.specs.Outcome.{Ending, route, no_route, unfinished, refused, figures}
use Rattle.search.specs.Reason.{Inquiry, inquiry_fault, answered, last_vertices, explanation}
use Rattle.search.proofs.Admitted.{exact, plan_edges_lem}
use Rattle.search.proofs.Tools.{get_d_in}
use Rattle.search.proofs.Reason.{unrefused, no_fault}
use Rattle.graph.specs.declared.Size.{Size}
use Rattle.workspace.specs.Layout.{graph_of}
use Rattle.workspace.specs.Holds.{Holds}
use Rattle.workspace.proofs.Holding.{holds_graph, holds_whole}
use Rattle.planner.specs.Carried.{words_of}
use Rattle.explanation.specs.Explained.{Explained}
use Rattle.explanation.specs.Listing.{size_in}
use Rattle.explanation.proofs.Explaining.{holds, taken_vertices, taken_edges}
use Rattle.job.specs.Reading.{max_job_vertices, max_job_edges}
use Rattle.job.specs.Asked.{route_size}
use Rattle.job.specs.Explained.{edge_line, reason_lines, inquiry_text}
use Rattle.job.specs.Texts.{Texts}
use Rattle.printing.specs.Shown.{refusal_shown, Explainable, ExplainedShown}
use Rattle.printing.proofs.Answered.{figures_shown}

-- the graph counts only where there is no route
same_lines : (e : Ending) (g h : List Edge) (a b : List ℕ) → (e ≡ no_route → g ≡ h) → reason_lines e g a b ≡ reason_lines e h a b
unfolding reason_lines
same_lines route g h a b f = refl
same_lines no_route g h a b f = rw (f refl)
same_lines unfinished g h a b f = refl
same_lines refused g h a b f = refl

module _ (x : Inquiry) (z : Size) (size_is : z ≡ size_in (header x.call.bytes)) (r : Explanation Refusal) (m : Memory) (vertices edges : List ℕ)
    (k : Explained x r m vertices edges) where
  abbrev c : Call
  c = x.call

  answer_is : r.answer ≡ answered x
  unfolding explanation
  answer_is = ap (λ (u : Explanation Refusal). u.answer) k.answers

  module _ (h : (figures r.answer).ending ≡ no_route) where
    passed : inquiry_fault x ≡ none
    passed = no_fault x (ap (λ (a : Result Answer Refusal). (figures a).ending) (sym answer_is) ∙ h)

    abbrev y : Admitted c
    y = (exact c).0 (unrefused x passed)

    held : Holds z (plan_edges c) (last_vertices c) (words_of c.memory) (words_of m)
    held = holds x z size_is passed m (k.memory_is ∙ (k.reasoned.same passed).1)

    graph_there : graph_of z m.work ≡ plan_edges c
    graph_there = holds_graph z _ _ _ _ held

    within : Within y.size (plan_edges c)
    within = rw (plan_edges_lem c y.size y.edges y.plan) (accepted_within c.bytes y.size y.edges y.plan)

    lines : (j : ℕ) → j < z.edges → length (edge_line (graph_of z m.work) 0 j) ≤ 88
    unfolding edge_line
    lines j l =
        let e : Edge = get_or (plan_edges c) j (record { tail = 0; head = 0; cost = 0; class = 0 }) in
        let w : EdgeWithin y.size e = within.each e (get_d_in (plan_edges c) j _ (omega (arith, l, held.edges))) in
        rw graph_there
        (length_barred_line 10 (omega arith) j e.tail e.head e.cost e.class (omega (arith, l, held.edges, within.edges))
        (omega (arith, w.tail, within.vertices)) (omega (arith, w.head, within.vertices)) (omega (arith, w.cost)) (omega (arith, w.class)))

    numbers : (i : ℕ) → i < length (take r.edges edges) → get_or (take r.edges edges) i 0 < z.edges
    numbers i l = omega (arith, (((k.says h).leaves _).0 (get_d_in (take r.edges edges) i 0 l)).number, held.edges)

  pub explainable :
      length m.route ≤ route_size → length vertices ≤ max_job_vertices → length edges ≤ max_job_edges →
      Explainable refusal_shown r z m.route m.work vertices edges
  explainable a b d =
      record {
        listed = λ k.
            let h : (figures r.answer).ending ≡ no_route = rw (figures_shown r.answer) at k in
            record {
              whole = holds_whole z _ _ _ _ (held h);
              lines = lines h;
              short_vertices = b;
              short_edges = omega (arith, d, length-take r.edges edges);
              numbers = numbers h;
            };
        short_route = a;
      }

  pub explained_text :
      {old : List ℕ} {n : ℕ} {new : List ℕ} → ExplainedShown refusal_shown r m.route (graph_of z m.work) vertices edges old n new → Texts (inquiry_text x) old n new
  unfolding inquiry_text
  explained_text t =
      let g = same_lines (figures r.answer).ending (graph_of z m.work) (plan_edges c) (take r.vertices vertices) (take r.edges edges) graph_there in
      rw (
        figures_shown r.answer,
        g,
        taken_vertices x r vertices edges k.answers k.vertices_are,
        taken_edges x r vertices edges k.answers k.edges_are,
        answer_is,
        ap (λ (u : Memory). u.route) k.memory_is,
      ) at t

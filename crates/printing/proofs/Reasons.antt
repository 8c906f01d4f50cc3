-- How long the text of a reason is.
use Prim.Native.Nat.{ℕ, ◌^◌, ◌≤◌, ◌<◌}
use native.Mathlib.Omega.{arith}
use mathlib.Core.List.{List}
use lib.ListN.{length, take, length-append}
use Rattle.search.specs.declared.Explanation.{Explanation}
use Rattle.graph.specs.declared.Size.{Size}
use Rattle.workspace.specs.Layout.{graph_of}
use Rattle.job.specs.Texts.{max_text}
use Rattle.job.proofs.Lines.{Words, no_route_few, reach_few, edges_few}
use Rattle.printing.specs.Shown.{Listed}
use Rattle.printing.specs.Writing.{reason_text}

pub reason_few :
    {R : Type 0} (turns : ℕ) (e : Explanation R) (z : Size) (work vertices edges : List ℕ) → turns < 2 ^ 32 → Words vertices →
    Listed z work vertices (take e.edges edges) → length (reason_text turns e (graph_of z work) vertices edges) ≤ max_text
reason_few turns e z work vertices edges small words l =
    simp length-append
    (omega (
      arith,
      no_route_few turns (omega arith),
      reach_few e.vertices vertices words l.short_vertices,
      edges_few (graph_of z work) (take e.edges edges) l.short_edges (λ i h. l.lines _ (l.numbers i h)),
    ))

-- `put_reason` meets its contract, by the cases of what a search ends with.
use native.Mathlib.Omega.{arith}
use mathlib.Core.List.{append-nil}
use Rattle.std.proofs.Common.{rules}
use Rattle.text.specs.Text.{ascii, unfinished_line}
use Rattle.search.specs.Outcome.{figures}
use Rattle.job.specs.Printed.{last_lines}
use Rattle.job.specs.Explained.{reason_lines}
use Rattle.job.proofs.Lines.{unfinished_few}
use Rattle.printing.specs.Shown.{figures_by}
use Rattle.printing.proofs.Answered.{route_end_few, whole}
use Rattle.printing.proofs.Reasons.{reason_few}
use Rattle.printing.proofs.put_reason.Goals.{in-Route, in-NoRoute, in-Unfinished}
use Rattle.printing.proofs.put_reason.Goals as goal

pub route_end-requires : goal.route_end-requires
route_end-requires g c =
    let few = route_end_few c.in-Route.summary c.args.route.now c.type_inv.route c.requires.1.short_route (omega arith, omega arith, omega arith, omega arith) in
    omega (arith, c.new-text.ensures.front, few)

pub invariant_of-graph : goal.invariant_of-graph
unfolding figures figures_by
invariant_of-graph g c = record { loaded = (c.requires.1.listed (rw (c.requires.0, c.in-NoRoute.is))).whole.graph }

pub reason-requires : goal.reason-requires
unfolding figures figures_by
reason-requires g c =
    let a = c.args in
    let l = c.requires.1.listed (rw (c.requires.0, c.in-NoRoute.is)) in
    let few = reason_few c.in-NoRoute.turns a.explanation a.z a.work.now a.vertices.now a.edges.now (omega arith) c.type_inv.vertices l in
    (l.whole, l.numbers, omega (arith, c.new-text.ensures.front, few))

pub turns_line-requires : goal.turns_line-requires
unfolding ascii unfinished_line
turns_line-requires g c = omega (arith, c.new-text.ensures.front, unfinished_few c.in-Unfinished.turns (omega arith))

pub returns : goal.returns
unfolding ascii unfinished_line figures figures_by last_lines reason_lines
returns g c =
    let a = c.args in
    let starts = c.new-text.ensures in
    elim c.match-answer.branch [
      | in-Route w ↦
          let few = route_end_few w.in-Route.summary a.route.now c.type_inv.route c.requires.1.short_route (omega arith, omega arith, omega arith, omega arith) in
          rw (c.requires.0, w.in-Route.is, w.text-is, append-nil) (whole starts w.route_end.ensures (omega (arith, few)) (search rules))
      | in-NoRoute w ↦
          let l = c.requires.1.listed (rw (c.requires.0, w.in-NoRoute.is)) in
          let few = reason_few w.in-NoRoute.turns a.explanation a.z a.work.now a.vertices.now a.edges.now (omega arith) c.type_inv.vertices l in
          rw (c.requires.0, w.in-NoRoute.is, w.text-is) (whole starts w.reason.ensures few (search rules))
      | in-Unfinished w ↦
          let few = unfinished_few w.in-Unfinished.turns (omega arith) in
          rw (c.requires.0, w.in-Unfinished.is, w.text-is, append-nil) (whole starts w.turns_line.ensures (omega (arith, few)) (search rules))
    ]

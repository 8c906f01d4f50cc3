-- `put_search` meets its contract, by the cases of what a search ends with.
use native.Mathlib.Omega.{arith}
use Rattle.std.proofs.Common.{rules}
use Rattle.text.specs.Text.{ascii, each, turn_lines, no_route_line, unfinished_line}
use Rattle.search.specs.Outcome.{figures}
use Rattle.job.specs.Printed.{turns, last_lines, printed}
use Rattle.printing.proofs.Answered.{route_few_in_all, no_route_few_in_all, unfinished_few_in_all, whole}
use Rattle.printing.proofs.put_search.Goals.{in-Route, in-NoRoute, in-Unfinished}
use Rattle.printing.proofs.put_search.Goals as goal

pub route-requires : goal.route-requires
route-requires c =
    let a = c.args in
    let few = route_few_in_all a.log.now c.type_inv.log c.requires.short_log c.in-Route.summary a.route.now c.type_inv.route c.requires.short_route (omega arith, omega arith, omega arith, omega arith) in
    omega (arith, c.new-text.ensures.front, few)

pub no_route-requires : goal.no_route-requires
unfolding ascii no_route_line
no_route-requires c =
    omega (arith, c.new-text.ensures.front, no_route_few_in_all c.args.log.now c.type_inv.log c.requires.short_log c.in-NoRoute.turns (omega arith))

pub no_route-requires-in-Unfinished : goal.no_route-requires-in-Unfinished
unfolding ascii unfinished_line
no_route-requires-in-Unfinished c =
    omega (arith, c.new-text.ensures.front, unfinished_few_in_all c.args.log.now c.type_inv.log c.requires.short_log c.in-Unfinished.turns (omega arith))

pub returns : goal.returns
unfolding printed last_lines turns turn_lines each figures ascii no_route_line unfinished_line
returns c =
    let a = c.args in
    let t = c.type_inv in
    let q = c.requires in
    let starts = c.new-text.ensures in
    elim c.match-answer.branch [
      | in-Route w ↦
          let few = route_few_in_all a.log.now t.log q.short_log w.in-Route.summary a.route.now t.route q.short_route (omega arith, omega arith, omega arith, omega arith) in
          rw (w.in-Route.is, w.text-is) (whole starts w.route.ensures few (search rules))
      | in-NoRoute w ↦
          let few = no_route_few_in_all a.log.now t.log q.short_log w.in-NoRoute.turns (omega arith) in
          rw (w.in-NoRoute.is, w.text-is) (whole starts w.no_route.ensures few (search rules))
      | in-Unfinished w ↦
          let few = unfinished_few_in_all a.log.now t.log q.short_log w.in-Unfinished.turns (omega arith) in
          rw (w.in-Unfinished.is, w.text-is) (whole starts w.no_route-in-Unfinished.ensures few (search rules))
    ]

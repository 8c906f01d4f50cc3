-- `end_round` meets its contract: the kept route, the next round's beginning, and the record.
use native.Mathlib.Omega.{arith}
use mathlib.Core.Path.{ap}
use Rattle.graph.specs.declared.Size.{Size}
use Rattle.planner.proofs.Asked.{goal_in, route_long}
use Rattle.planner.proofs.Ending.{carries_end, few_rounds}
use Rattle.planner.proofs.rounds.end_round.Goals as goal

pub keep-cost-requires : goal.keep-cost-requires
keep-cost-requires c =
    let h = c.requires in
    let e = ap (λ (z : Size). z.vertices) c.graph.ensures.size in (
      omega (arith, goal_in _ _ _ h.asking, e),
      omega (arith, route_long _ _ h.asking.fits _ _ _ _ h.carries, e),
    )

pub after_round-requires : goal.after_round-requires
after_round-requires c =
    let h = c.requires in
    few_rounds _ _ c.args.space.now _ _ _ _ h.asking h.carries h.left_is h.more h.finished

pub returns : goal.returns
returns c =
    let g = c.graph.ensures in
    let e = c.keep-cost.ensures in
    record {
      lent = c.reopen_next.ensures.lent;
      ends =
          λ d s a k l m f. carries_end d _ c.args.space.now _ s _ _ a k l m f c.graph.result g.words g.size _ _ c.reopen_next.new.space _ e.value e.route_after c.reopen_next.ensures c.after_round.ensures;
    }

-- `explain` meets its contract: the call, with as much route memory as the lists allow, and the lists after it.
use Rattle.search.specs.Reason.{Inquiry}
use Rattle.planner.specs.Plan.{memory_of, call_with}
use Rattle.explanation.specs.Explained.{inquiry_of}
use Rattle.explanation.proofs.Explaining.{listable, explained}
use Rattle.explanation.proofs.explain.Goals as goal

pub list-requires : goal.list-requires
list-requires c =
    let a = c.args in
    let x : Inquiry
    = inquiry_of (call_with a.call.now (memory_of a.route.now a.log.now a.work.now a.wide.now)) a.vertices.now a.edges.now in
    listable x _ c.size-size.ensures _ c.route_lent-words.ensures _ _ c.plan-answer.ensures

pub returns : goal.returns
returns c =
    let a = c.args in
    let x : Inquiry
    = inquiry_of (call_with a.call.now (memory_of a.route.now a.log.now a.work.now a.wide.now)) a.vertices.now a.edges.now in
    rw (c.list.ensures.same.0, c.list.ensures.same.1) (explained x _ c.size-size.ensures _ c.route_lent-words.ensures _ _ c.plan-answer.ensures _ _ _ c.list.ensures.lists)

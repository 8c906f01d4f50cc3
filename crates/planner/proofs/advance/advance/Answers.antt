-- `advance` meets its contract: a turn where one is due, and step 1 after it.
use Rattle.planner.proofs.Asked.{rounds_asks}
use Rattle.planner.proofs.Turning.{round_in, turn_asks, left_enough, settling_next, advances_over, advances_due}
use Rattle.planner.proofs.advance.advance.Goals as goal

pub returns-in_default : goal.returns-in_default
returns-in_default c = advances_over _ c.args.space.now _ _ _ c.in_default.not-Due

pub factors-f-requires : goal.factors-f-requires
factors-f-requires c =
    let h = c.requires in
    round_in h.call _ c.args.space.now _ _ h.stand h.turns _ h.given h.reaches _ _ c.in-Due.is _ c.taken-taken.ensures

pub turn-requires : goal.turn-requires
turn-requires c =
    let h = c.requires in
    turn_asks h.call _ c.args.space.now _ _ h.stand h.turns _ h.given h.reaches _ _ c.in-Due.is _ c.taken-taken.ensures _ c.factors-f.ensures

pub rounds-requires : goal.rounds-requires
rounds-requires c = rounds_asks _ _ _ c.requires.given.asking _ c.taken-taken.ensures

pub overflow_sub-left : goal.overflow_sub-left
overflow_sub-left c =
    let h = c.requires in
    left_enough h.call _ c.args.space.now _ _ h.stand h.turns _ h.given h.reaches _ _ c.in-Due.is _ c.taken-taken.ensures _ c.factors-f.ensures
    _ c.turn.new.space c.after_turn-next.ensures c.turn.ensures.stores _ c.rounds.ensures

pub settle-requires : goal.settle-requires
settle-requires c =
    settling_next _ c.args.space.now _ _ _ _ _ c.in-Due.is _ c.taken-taken.ensures _ c.factors-f.ensures
    _ c.turn.new.space c.after_turn-next.ensures c.turn.ensures.stores _ c.rounds.ensures c.requires

pub returns : goal.returns
returns c =
    advances_due _ c.args.space.now _ _ _ _ _ c.in-Due.is _ c.taken-taken.ensures _ c.factors-f.ensures
    _ c.turn.new.space c.after_turn-next.ensures c.turn.ensures.stores _ c.rounds.ensures _ c.settle.new.space _ _ c.turn.ensures.log_after c.settle.ensures

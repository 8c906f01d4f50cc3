-- `finish` meets its contract, by what step 1 said at last.
use Rattle.planner.proofs.Finishing.{end_figured, some_round, answers_none, answers_route, answers_cut}
use Rattle.planner.proofs.finish.finish.Goals as goal

pub summary-requires : goal.summary-requires
summary-requires c =
    let h = c.requires in (end_figured _ _ _ _ _ _ _ h.at_end, some_round _ _ _ _ _ _ _ h.at_end c.in-Finished.is)

pub cut_short-requires : goal.cut_short-requires
cut_short-requires c = end_figured _ _ _ _ _ _ _ c.requires.at_end

pub returns-in-Stuck : goal.returns-in-Stuck
returns-in-Stuck c = record { finishes = λ d y m h. answers_none d _ y _ _ _ m h c.in-Stuck.is }

pub returns-in-Finished : goal.returns-in-Finished
returns-in-Finished c =
    record { finishes = λ d y m h. answers_route d _ y _ _ _ m h _ c.in-Finished.is c.summary.ensures }

pub returns-in-Due : goal.returns-in-Due
returns-in-Due c =
    record { finishes = λ d y m h. answers_cut d _ y _ _ _ m h _ _ _ c.in-Due.is c.cut_short.ensures }

-- `answer` meets its contract: the search begins, runs and is handed over.
use mathlib.Core.Path.{refl}
use Rattle.std.proofs.Common.{rules}
use Rattle.planner.proofs.Handed.{beginning, begun_ready, running, finishing, answers_all}
use Rattle.planner.proofs.answers.answer.Goals as goal

pub begin-first-requires : goal.begin-first-requires
begin-first-requires c = beginning _ _ _ _ c.requires

pub invariant_of-space : goal.invariant_of-space
invariant_of-space c = record { ready = begun_ready _ _ _ _ c.requires _ _ _ c.begin-first.ensures }

pub run-last-requires : goal.run-last-requires
run-last-requires c = running _ _ _ _ c.requires _ _ _ refl c.begin-first.ensures

pub finish-requires : goal.finish-requires
finish-requires c =
    finishing _ _ _ _ c.requires _ _ _ refl c.begin-first.ensures _ c.run-last.new.space _ _ c.run-last.ensures _ c.taken.ensures

pub returns : goal.returns
returns c =
    answers_all _ _ _ _ c.requires _ _ _ refl c.begin-first.ensures _ c.run-last.new.space _ _ c.run-last.ensures _ c.taken.ensures
    _ c.finish.ensures _ _ (search rules) (search rules)

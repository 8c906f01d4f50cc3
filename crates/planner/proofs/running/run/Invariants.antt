-- `run` meets its contract: it stands where the turns made so far lead.
use Rattle.planner.specs.Reached.{Runs}
use Rattle.planner.proofs.running.run.Given as goal

abbrev pub invariant-loop : goal.invariant-loop
invariant-loop l = Runs l.call l.initial.space l.initial.route l.initial.log l.counter l.initial.stand l.stand l.space l.route l.log

-- `route_length` meets its contract.
use mathlib.Core.Path.{ap, sym, ◌∙◌}
use mathlib.Core.Bool.{not}
use lib.Dec.{eqb}
use lib.ListN.{length, take}
use Rattle.std.proofs.Common.{rules, tests}
use Rattle.std.proofs.lemmas.Iterator.{YieldsList-from_slice}
use Rattle.std.proofs.lemmas.Iterator.Consumers.{count_from_yields_List}
use Rattle.std.proofs.lemmas.Iterator.Search.{YieldsList-from_take_while}
use Rattle.search.specs.Job.{route_end}
use Rattle.route.proofs.Counted.{ahead_of_end}
use Rattle.route.proofs.route_length.Goals as goal

pub returns : goal.returns
unfolding route_end
returns c =
    count_from_yields_List c.take_while.result _ c.count.ensures.ran
    (YieldsList-from_take_while _ (λ x. not (eqb x route_end)) (YieldsList-from_slice (take c.args.v c.args.route.now) (cc)) c.take_while.ensures.closure c.take_while.ensures.done (λ x b q k. search (rules, tests)))
    ∙ ap length (sym (ahead_of_end (take c.args.v c.args.route.now)))

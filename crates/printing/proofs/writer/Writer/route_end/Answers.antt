-- `route_end` meets its contract: the route line and the end line.
use lib.ListN.{take}
use Rattle.text.specs.Text.{ascii, route_line, end_line}
use Rattle.text.proofs.Laid.{first_counted, then_counted}
use Rattle.printing.proofs.Writing.{then_wrote}
use Rattle.printing.proofs.writer.Writer.route_end.Goals as goal

pub vertices_line-requires : goal.vertices_line-requires
unfolding ascii route_line
vertices_line-requires c =
    let a = c.args in
    let s = a.summary in
    rw c.first.ensures
    (first_counted a.self.now.at (route_line (take s.length a.route.now)) (end_line s.cost s.rounds s.expansions s.bound) c.requires)

pub end_line-requires : goal.end_line-requires
unfolding ascii route_line
end_line-requires c = then_counted _ (rw c.first.ensures at c.vertices_line.ensures.put) c.requires

pub returns : goal.returns
unfolding ascii route_line
returns c = then_wrote (rw c.first.ensures at c.vertices_line.ensures) c.end_line.ensures

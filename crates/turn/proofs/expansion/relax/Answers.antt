-- `relax` meets its contract.
use mathlib.Core.Path.{sym, ◌∙◌}
use Rattle.turn.proofs.Expanding.{relax_taken, relax_left}
use Rattle.turn.proofs.expansion.relax.Goals as goal

pub returns-then-undercuts : goal.returns-then-undercuts
returns-then-undercuts c =
    let a = c.args in
    let t = sym (rw c.vertex-x.ensures at c.undercuts.ensures) ∙ c.if-undercuts.true in
    relax_taken a.s a.g a.e a.space.now _ t (rw (c.lowered.ensures, c.vertex-x.ensures, c.from.ensures) at c.set_vertex.ensures)

pub returns-else-undercuts : goal.returns-else-undercuts
returns-else-undercuts c =
    let a = c.args in
    let t = sym (rw c.vertex-x.ensures at c.undercuts.ensures) ∙ c.if-undercuts.false in
    relax_left a.s a.g a.e a.space.now t

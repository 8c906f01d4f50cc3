-- `consider` meets its contract.
use mathlib.Core.Path.{sym, ◌∙◌}
use Rattle.turn.proofs.Scanning.{offered_taken, offered_left, closed_left}
use Rattle.turn.proofs.scan.Scan.consider.Goals as goal

pub returns-then-is_offered : goal.returns-then-is_offered
returns-then-is_offered c =
    let x = c.vertex-x.ensures in
    let o = sym (rw x at c.is_offered.ensures) ∙ c.if-is_offered.true in
    let k = rw x at c.key.ensures.0 in
    offered_taken _ _ _ _ _ c.requires.1 _ o (rw k at c.key.ensures.1) c.requires.0 (rw k at c.better.ensures)

pub returns-else-is_offered : goal.returns-else-is_offered
returns-else-is_offered c =
    let o = sym (rw c.vertex-x.ensures at c.is_offered.ensures) ∙ c.if-is_offered.false in
    offered_left _ _ _ _ _ c.requires.1 o

pub returns-else-x : goal.returns-else-x
returns-else-x c =
    offered_left _ _ _ _ _ c.requires.1 (closed_left c.args.self.i _ _ (rw c.vertex-x.ensures at c.if-x.false))

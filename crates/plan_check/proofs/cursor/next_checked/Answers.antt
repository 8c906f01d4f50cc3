-- `next_checked` meets its contract: its four numbers are those of the edge that is next.
use Rattle.std.proofs.Common.{arith}
use Rattle.plan_check.proofs.Passing.{numbers}
use Rattle.plan_check.proofs.cursor.next_checked.Goals as goal

pub returns-in_err-difference : goal.returns-in_err-difference
returns-in_err-difference c = let n = numbers c.requires in grind (arith, n.tail_read)

pub returns-in_err-head : goal.returns-in_err-head
returns-in_err-head c = let n = numbers c.requires in grind (arith, n.tail_read, n.head_read)

pub returns-in_err-cost : goal.returns-in_err-cost
returns-in_err-cost c = let n = numbers c.requires in grind (arith, n.tail_read, n.head_read, n.cost_read)

pub returns-in_err-class : goal.returns-in_err-class
returns-in_err-class c = let n = numbers c.requires in grind (arith, n.tail_read, n.head_read, n.cost_read, n.class_read)

pub overflow_add-cursor : goal.overflow_add-cursor
overflow_add-cursor c = let n = numbers c.requires in grind (arith, n.tail_read, n.tail_within)

pub next-requires : goal.next-requires
next-requires c = let n = numbers c.requires in grind (arith, n.tail_read, n.head_read, n.head_within)

pub returns : goal.returns
returns c = let n = numbers c.requires in grind (arith, n.tail_read, n.head_read, n.cost_read, n.class_read, n.is)

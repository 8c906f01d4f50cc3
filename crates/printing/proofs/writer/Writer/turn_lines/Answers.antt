-- `turn_lines` meets its contract.
use native.Mathlib.Omega.{arith}
use Rattle.text.specs.Text.{logged_line, turn_lines}
use Rattle.printing.proofs.Each.{none_each, next_each, each_counted, all_each}
use Rattle.printing.proofs.writer.Writer.turn_lines.Goals as goal

pub loop-i-init : goal.loop-i-init
loop-i-init c = none_each logged_line 1 c.args.self.now

pub logged_line-requires : goal.logged_line-requires
unfolding turn_lines
logged_line-requires c = each_counted logged_line 1 c.loop-i.i c.args.log.now (omega arith) c.loop-i.invariant c.requires

pub loop-i-preserved : goal.loop-i-preserved
loop-i-preserved c = next_each logged_line 1 c.loop-i.i c.args.log.now (omega arith) c.loop-i.invariant c.logged_line.ensures

pub returns : goal.returns
unfolding turn_lines
returns c = all_each logged_line 1 c.loop-i.i c.args.log.now (omega arith) c.loop-i.invariant

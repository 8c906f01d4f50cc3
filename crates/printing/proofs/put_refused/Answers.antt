-- `put_refused` meets its contract: one line.
use native.Mathlib.Omega.{arith}
use Rattle.std.proofs.Common.{rules}
use Rattle.job.proofs.Lines.{refused_few}
use Rattle.printing.proofs.Answered.{whole}
use Rattle.printing.proofs.put_refused.Goals as goal

pub refused_line-requires : goal.refused_line-requires
refused_line-requires c =
    omega (arith, refused_few c.args.number c.args.position (omega arith) (omega arith), c.new-text.ensures.front)

pub returns : goal.returns
returns c =
    whole c.new-text.ensures c.refused_line.ensures (omega (arith, refused_few c.args.number c.args.position (omega arith) (omega arith))) (search rules)

-- `choice` meets its contract.
use Rattle.turn.specs.Asked.{choice_of}
use Rattle.turn.proofs.Keys.{choose_inside}
use Rattle.turn.proofs.choice.Goals as goal

pub returns : goal.returns
unfolding choice_of
returns c =
    let k = choose_inside c.args.vertices.size.vertices c.args.f.w2 c.args.m c.args.a c.args.i _ c.candidate-b.ensures.1 c.requires.2 in (
      rw (c.choose.ensures, c.candidate-b.ensures.0),
      rw c.choose.ensures k.vertex,
      rw c.choose.ensures k.heuristic,
    )

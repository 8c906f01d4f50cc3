-- `build` meets its contract.
use native.Mathlib.Omega.{arith}
use Rattle.queue.specs.Methods.{memory}
use Rattle.queue.proofs.Built.{entered_none, entered_all}
use Rattle.queue.proofs.Queues.build.Goals as goal

pub loop-s-init : goal.loop-s-init
loop-s-init c =
    let u = c.clear_all.ensures in
    let m = u.same in (
      record {
        heap = m.heap;
        counts = m.counts;
        words = m.words;
        tallies = m.tallies;
        anchor = m.anchor;
        guides = m.guides;
        vertices = m.vertices;
        tables = m.tables;
      },
      entered_none _ _ _ _ _ (memory c.args.self.now) _ c.requires c.bound.ensures m.words m.tallies u.cleared,
    )

pub returns-clause-queues : goal.returns-clause-queues
returns-clause-queues c =
    entered_all _ _ _ _ _ c.loop-s.s (memory c.loop-s.self) c.loop-s.invariant.1 (omega (arith, c.loop-s-test.false))

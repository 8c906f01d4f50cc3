-- `rise` meets its contract.
use mathlib.Core.Path.{refl, ◌∙◌}
use native.Mathlib.Omega.{arith}
use Rattle.heap.proofs.Laws.{rising_none, rising_above, rising_more, rising_stays}
use Rattle.heap.proofs.Heap.rise.Goals as goal

pub loop-self-init : goal.loop-self-init
loop-self-init c =
    (record { words = refl; vertices = refl; count = refl }, c.requires.0, rising_none _ _ _ _ c.args.self.now.safe.few c.requires.1)

pub move_down-j-requires : goal.move_down-j-requires
move_down-j-requires c =
    let y = c.loop-self.invariant in
    (y.1, omega (arith, (rising_above _ _ _ _ _ _ y.2 _ c.cheaper.ensures c.loop-self-test.true).below.low), y.2.inside)

pub loop-self-smaller : goal.loop-self-smaller
loop-self-smaller c =
    let d = (rising_above _ _ _ _ _ _ c.loop-self.invariant.2 _ c.cheaper.ensures c.loop-self-test.true).below in
    omega (arith, d.low, c.move_down-j.ensures.slot)

pub loop-self-preserved : goal.loop-self-preserved
loop-self-preserved c =
    let m = c.move_down-j.ensures in
    let y = c.loop-self.invariant in
    let d = (rising_above _ _ _ _ _ _ y.2 _ c.cheaper.ensures c.loop-self-test.true).below in (
      record { words = m.same.words ∙ y.0.words; vertices = m.same.vertices ∙ y.0.vertices; count = m.same.count ∙ y.0.count },
      omega (arith, d.low, m.slot, m.same.count, y.1),
      rw (m.same.vertices, m.slot) (rising_more _ _ _ _ _ _ y.2 _ c.cheaper.ensures c.loop-self-test.true _ m.words),
    )

pub returns-clause-words : goal.returns-clause-words
returns-clause-words c =
    let y = c.loop-self.invariant in
    rw (← y.0.vertices) (c.put.ensures.words ∙ rising_stays _ _ _ _ _ _ y.2 _ c.cheaper.ensures c.loop-self-test.false)

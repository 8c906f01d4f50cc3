-- `update` meets its contract.
use native.Mathlib.Omega.{arith}
use mathlib.Core.Path.{◌∙◌}
use Rattle.heap.proofs.Laws.{stood, stood_out, small_of, safe_comes, comes, changes, stays_out, goes}
use Rattle.heap.proofs.Heap.update.Goals as goal

pub rise-requires : goal.rise-requires
rise-requires c =
    let y = c.requires in
    let q = stood _ _ _ _ c.position.ensures c.in-Some-Some.is-1 in
    let l = y.stands q.0 in
    (omega (arith, l, q.1), omega (arith, l, q.1, c.args.self.now.safe.fit), small_of _ _ _ _ _ y _ c.in-Some-Some.is-0)

pub rise-requires-in-Some-None : goal.rise-requires-in-Some-None
rise-requires-in-Some-None c =
    let y = c.requires in
    let q = stood_out _ _ _ c.position.ensures c.in-Some-None.is-1 in
    (omega arith, y.more (rw c.in-Some-None.is-0 tt) q, small_of _ _ _ _ _ y _ c.in-Some-None.is-0)

pub invariant_of-self : goal.invariant_of-self
invariant_of-self c =
    let y = c.requires in
    let q = stood_out _ _ _ c.position.ensures c.in-Some-None.is-1 in
    let r = c.rise-in-Some-None.ensures in
    record {
      safe = rw (r.same.vertices, r.words)
          (safe_comes _ _ _ _ c.args.self.now.safe (y.more (rw c.in-Some-None.is-0 tt) q) (small_of _ _ _ _ _ y _ c.in-Some-None.is-0));
    }

pub remove-requires : goal.remove-requires
remove-requires c =
    let q = stood _ _ _ _ c.position.ensures c.in-None-Some.is-1 in
    (omega (arith, c.requires.stands q.0, q.1), c.requires.small)

pub returns-in-Some-Some-clause-words : goal.returns-in-Some-Some-clause-words
returns-in-Some-Some-clause-words c =
    c.rise.ensures.words ∙ (changes _ _ _ _ _ _ c.in-Some-Some.is-0 _ _ c.position.ensures c.in-Some-Some.is-1).0

pub returns-in-Some-Some-clause-count : goal.returns-in-Some-Some-clause-count
returns-in-Some-Some-clause-count c =
    c.rise.ensures.same.count ∙ (changes c.args.self.now.vertices _ _ _ _ _ c.in-Some-Some.is-0 _ _ c.position.ensures c.in-Some-Some.is-1).1

pub returns-in-Some-None-clause-words : goal.returns-in-Some-None-clause-words
returns-in-Some-None-clause-words c =
    c.rise-in-Some-None.ensures.words ∙ (comes _ _ _ _ _ _ c.in-Some-None.is-0 _ c.position.ensures c.in-Some-None.is-1).0

pub returns-in-Some-None-clause-count : goal.returns-in-Some-None-clause-count
returns-in-Some-None-clause-count c = (comes c.args.self.now.vertices _ _ _ _ _ c.in-Some-None.is-0 _ c.position.ensures c.in-Some-None.is-1).1

pub returns-in-None-Some-clause-words : goal.returns-in-None-Some-clause-words
returns-in-None-Some-clause-words c =
    c.remove.ensures.words ∙ (goes _ _ _ _ _ c.in-None-Some.is-0 _ _ c.position.ensures c.in-None-Some.is-1).0

pub returns-in-None-Some-clause-count : goal.returns-in-None-Some-clause-count
returns-in-None-Some-clause-count c =
    c.remove.ensures.count ∙ (goes c.args.self.now.vertices _ _ _ _ c.in-None-Some.is-0 _ _ c.position.ensures c.in-None-Some.is-1).1

pub returns-in-None-None-clause-words : goal.returns-in-None-None-clause-words
returns-in-None-None-clause-words c = (stays_out _ _ _ _ _ c.in-None-None.is-0 _ c.position.ensures c.in-None-None.is-1).0

pub returns-in-None-None-clause-count : goal.returns-in-None-None-clause-count
returns-in-None-None-clause-count c = (stays_out c.args.self.now.vertices _ _ _ _ c.in-None-None.is-0 _ c.position.ensures c.in-None-None.is-1).1

-- What one read gives stands after what was read before.
use Rattle.std.proofs.Common.{◌≡◌, ℕ, ◌+◌, ◌≤◌, List, ◌++◌, rules, length, take, drop, sym, ap, ◌∙◌, subst, le_refl, drop_at, length-take-le}
use Rattle.std.proofs.lemmas.Slice.{take-put_mid_below}
use Rattle.std.specs.Io.KnownBytes.{Consumes}
use Rattle.std.proofs.KnownBytes.{Consumes-trans}
use borrow.Rule.Slice.PartMut.{put_mid, post_of}
use lib.Seq.{take-add, take-append-le}
use Rattle.bench.proofs.read_full.Goals as goal

front_more : (s k n : ℕ) (xs ys : List ℕ) → s ≤ length xs → n ≤ length ys → take (s + n) (put_mid s k xs ys) ≡ take s xs ++ take n ys
front_more s k n xs ys within fits =
    let after = post_of s k xs in
    take-add s n (put_mid s k xs ys)
    ∙ ap (λ l. l ++ take n (drop s (put_mid s k xs ys))) (take-put_mid_below _ _ _ _ _ (le_refl _) within)
    ∙ ap (λ l. take s xs ++ l)
    (ap (take n) (drop_at (take s xs) (ys ++ after) s (length-take-le s xs within)) ∙ take-append-le n ys after fits)

pub loop-size-preserved : goal.loop-size-preserved
loop-size-preserved g c =
    let i = c.loop-size.invariant in
    record {
      within = search rules;
      room = search rules;
      taken =
          subst (Consumes _ _) (sym (front_more _ _ _ _ _ i.within c.in-Ok.ensures.bound.0))
          (Consumes-trans _ _ _ _ _ i.taken c.in-Ok.ensures.bytes.0);
    }

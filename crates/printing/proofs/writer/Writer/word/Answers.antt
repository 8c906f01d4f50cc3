-- `word` meets its contract: all at once, or byte by byte.
use Rattle.std.proofs.Common.{arith, refl, sym, ◌∙◌, ◌≡◌, ◌+◌, ◌-◌, ◌≤◌, ℕ, List, ◌++◌, length, take, drop, append_assoc, ap}
use Rattle.std.proofs.lemmas.List.{drop-drop}
use Rattle.std.proofs.lemmas.List.Edits.{sets-eq}
use Rattle.text.specs.Laid.{laid}
use Rattle.printing.proofs.Writing.{wrote_nil, next_wrote}
use Rattle.printing.proofs.writer.Writer.word.Goals as goal

at_once : (at : ℕ) (text old : List ℕ) → at + length text ≤ length old → take at old ++ (text ++ drop (length text) (drop at old)) ≡ laid at text old
unfolding laid
at_once at text old h =
    ap (λ (l : List ℕ). take at old ++ (text ++ l)) (drop-drop (length text) at old)
    ∙ sym (append_assoc (take at old) text (drop (at + length text) old))
    ∙ sym (sets-eq text old at h)

pub returns-then-end-self : goal.returns-then-end-self
returns-then-end-self c =
    let w = c.args.word.now in
    let s = c.args.self.now in
    let e : s.at + length w - s.at ≡ length w = omega arith in
    record {
      put = record { next = refl; memory = rw (c.copy_from_slice.ensures.after, e) (at_once s.at w s.out.now (omega arith)) };
      same = refl;
    }

pub loop-byte-init : goal.loop-byte-init
loop-byte-init c = wrote_nil c.args.self.now

pub loop-byte-preserved : goal.loop-byte-preserved
loop-byte-preserved c = next_wrote c.loop-byte.byte-index c.args.word.now (omega arith) c.loop-byte.invariant c.byte.ensures

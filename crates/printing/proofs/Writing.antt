-- Laws of texts that a writer wrote one after another.
use Prim.Native.Nat.{ℕ, ◌+◌, ◌<◌, ◌≤◌, ◌/◌, ◌%◌}
use mathlib.Core.Path.{refl, ◌∙◌}
use mathlib.Core.List.{List, [], ◌∷◌, ◌++◌}
use lib.ListN.{length, get_or, take}
use Rattle.text.proofs.Laid.{put_nil, then_put, next_put}
use Rattle.text.specs.Text.{digit, digits}
use Rattle.text.proofs.Digits.{one_put, last_put}
use Rattle.printing.specs.declared.writer.Writer.{Writer}
use Rattle.printing.specs.Writing.{Wrote}

-- nothing
pub wrote_nil : (w : Writer) → Wrote [] w w
wrote_nil w = record { put = put_nil w.at w.out.now; same = refl }

-- a text and another
pub then_wrote : {a b : List ℕ} {old mid new : Writer} → Wrote a old mid → Wrote b mid new → Wrote (a ++ b) old new
then_wrote first second = record { put = then_put first.put second.put; same = second.same ∙ first.same }

-- a list's elements: one more
pub next_wrote :
    (i : ℕ) (text : List ℕ) {old mid new : Writer} → i < length text → Wrote (take i text) old mid → Wrote (get_or text i 0 ∷ []) mid new →
    Wrote (take (i + 1) text) old new
next_wrote i text h first second = record { put = next_put i text h first.put second.put; same = second.same ∙ first.same }

-- a number: its last digit, after those before it if there are any
module _ {n : ℕ} {old new : Writer} where
  pub one_wrote : n < 10 → Wrote (digit (n % 10) ∷ []) old new → Wrote (digits n) old new
  one_wrote h w = record { put = one_put h w.put; same = w.same }

  pub last_wrote : {mid : Writer} → 10 ≤ n → Wrote (digits (n / 10)) old mid → Wrote (digit (n % 10) ∷ []) mid new → Wrote (digits n) old new
  last_wrote h front last = record { put = last_put h front.put last.put; same = last.same ∙ front.same }

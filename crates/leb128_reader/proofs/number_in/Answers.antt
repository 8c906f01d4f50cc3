-- `number_in` meets its contract: each answer follows the bits tested so far.
use Prim.Native.Nat.{ℕ}
use native.Mathlib.Omega.{arith}
use mathlib.Core.Path.{◌≡◌, ◌∙◌}
use Rattle.std.specs.Prelude.{Ok}
use Rattle.leb128.specs.Number.{NumberRead}
use Rattle.leb128_reader.proofs.Groups.{one, zero_2, two, zero_3, three, zero_4, over, four}
use Rattle.leb128_reader.proofs.WordBytes.{small, last_1, more_1, last_2, more_2, last_3, more_3, whole_4}
use Rattle.leb128_reader.proofs.number_in.Goals as goal

-- the offset past a number, as it is counted

counted : (v m n : ℕ) → m ≡ n → ◌≡◌ {A = NumberRead} (Ok (v, m)) (Ok (v, n))
counted v m n e = cc

pub returns-then-word-eq0 : goal.returns-then-word-eq0
returns-then-word-eq0 c = λ s f h e. one s _ _ (small _) h (last_1 _ _ s f e c.if-word-eq0.true)

pub returns-then-two-lt128 : goal.returns-then-two-lt128
returns-then-two-lt128 c =
    let t₁ = c.if-word-eq0.false in
    let t₂ = c.if-word-eq0-2.true in
    λ s f h e. zero_2 s _ _ (small _) (more_1 _ _ s f e t₁) _ (small _) (last_2 _ _ s f e t₂) c.if-two-lt128.true

pub returns-then-word-eq0-2 : goal.returns-then-word-eq0-2
returns-then-word-eq0-2 c =
    let t₁ = c.if-word-eq0.false in
    let t₂ = c.if-word-eq0-2.true in
    λ s f h e. counted _ _ _ (omega arith) ∙ two s _ _ (small _) (more_1 _ _ s f e t₁) _ (small _) (last_2 _ _ s f e t₂) c.if-two-lt128.false

pub returns-then-three-lt16384 : goal.returns-then-three-lt16384
returns-then-three-lt16384 c =
    let t₁ = c.if-word-eq0.false in
    let t₂ = c.if-word-eq0-2.false in
    let t₃ = c.if-word-eq0-3.true in
    λ s f h e. zero_3 s _ _ (small _) (more_1 _ _ s f e t₁) _ (small _) (more_2 _ _ s f e t₂) _ (small _) (last_3 _ _ s f e t₃) c.if-three-lt16384.true

pub returns-then-word-eq0-3 : goal.returns-then-word-eq0-3
returns-then-word-eq0-3 c =
    let t₁ = c.if-word-eq0.false in
    let t₂ = c.if-word-eq0-2.false in
    let t₃ = c.if-word-eq0-3.true in
    λ s f h e. counted _ _ _ (omega arith) ∙ three s _ _ (small _) (more_1 _ _ s f e t₁) _ (small _) (more_2 _ _ s f e t₂) _ (small _) (last_3 _ _ s f e t₃) c.if-three-lt16384.false

pub returns-then-fourth-eq0 : goal.returns-then-fourth-eq0
returns-then-fourth-eq0 c =
    let t₁ = c.if-word-eq0.false in
    let t₂ = c.if-word-eq0-2.false in
    let t₃ = c.if-word-eq0-3.false in
    λ s f h e. zero_4 s _ _ (small _) (more_1 _ _ s f e t₁) _ (small _) (more_2 _ _ s f e t₂) _ (small _) (more_3 _ _ s f e t₃) _ (whole_4 _ _ s f e) c.if-fourth-eq0.true

pub returns-then-fourth-gt127 : goal.returns-then-fourth-gt127
returns-then-fourth-gt127 c =
    let t₁ = c.if-word-eq0.false in
    let t₂ = c.if-word-eq0-2.false in
    let t₃ = c.if-word-eq0-3.false in
    λ s f h e. over s _ _ (small _) (more_1 _ _ s f e t₁) _ (small _) (more_2 _ _ s f e t₂) _ (small _) (more_3 _ _ s f e t₃) _ (whole_4 _ _ s f e) c.if-fourth-gt127.true

pub returns : goal.returns
returns c =
    let t₁ = c.if-word-eq0.false in
    let t₂ = c.if-word-eq0-2.false in
    let t₃ = c.if-word-eq0-3.false in
    let t₄ = c.if-fourth-eq0.false in
    λ s f h e.
    counted _ _ _ (omega arith)
    ∙ four s _ _ (small _) (more_1 _ _ s f e t₁) _ (small _) (more_2 _ _ s f e t₂) _ (small _) (more_3 _ _ s f e t₃) _ (whole_4 _ _ s f e)
    (omega (arith, t₄)) c.if-fourth-gt127.false

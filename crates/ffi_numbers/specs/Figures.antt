-- Document 01's numbers and values of each answer, as four figures for other languages: refusal number, position, first and second
-- value; unused figures are 0. Here of a number that was read or written.
use Rattle.ffi_numbers.specs.declared.Figures.{Figures}
use Rattle.std.specs.Prelude.{ℕ, List, [], ◌∷◌, ◌≡◌, Ok, Err}
use Rattle.leb128.specs.Number.{NumberRead, NumberWritten}
use Rattle.leb128.specs.declared.WriteError.TheVariants as write_error

abbrev pub figures : ℕ → ℕ → ℕ → ℕ → List ℕ
figures n p a b = n ∷ p ∷ a ∷ b ∷ []

-- a number and the offset past it, or refusal 1
abbrev pub read_figures : NumberRead → List ℕ
read_figures (Ok (x, next)) = figures 0 0 x next
read_figures (Err e) = figures 1 e.at 0 0

-- the offset past it; 1 where the value has no form, 11 where there is no room
abbrev pub written_figures : NumberWritten → List ℕ
written_figures (Ok at) = figures 0 0 at 0
written_figures (Err write_error.TooLarge) = figures 1 0 0 0
written_figures (Err write_error.NoRoom) = figures 11 0 0 0

-- the figures of what was read
abbrev pub ShowsRead : NumberRead → Figures → Type 0
ShowsRead r f = f.0 ≡ read_figures r

-- the figures of what was written
abbrev pub ShowsWritten : NumberWritten → Figures → Type 0
ShowsWritten w f = f.0 ≡ written_figures w

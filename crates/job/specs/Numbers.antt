-- Numbers of a bench job one after another: where they end, and their values.
use Rattle.std.specs.Prelude.{ℕ, zero, suc, List, [], ◌∷◌, Ok, Err, Option, Some, None}
use Rattle.leb128.specs.Number.{read, job_groups, NumberRead}

-- the offset past some numbers; or none: one of them is missing or of bad form
abbrev pub NumbersRead : Type 0
NumbersRead = Option ℕ

-- the offset past n numbers
unfoldable pub end_after : (ℕ → NumbersRead) → NumberRead → NumbersRead
end_after rest (Ok (x, next)) = rest next
end_after rest (Err e) = None

unfoldable pub end_of : ℕ → List ℕ → ℕ → NumbersRead
end_of zero s at = Some at
end_of (suc n) s at = end_after (end_of n s) (read job_groups s at)

-- the values of n numbers, up to the first that is missing or of bad form
unfoldable pub value_before : (ℕ → List ℕ) → NumberRead → List ℕ
value_before rest (Ok (x, next)) = x ∷ rest next
value_before rest (Err e) = []

unfoldable pub values : ℕ → List ℕ → ℕ → List ℕ
values zero s at = []
values (suc n) s at = value_before (values n s) (read job_groups s at)

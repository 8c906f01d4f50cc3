-- The default schedule (the site's own house schedule, E3): what stands at first, a sheet loaded, and what loading promises.
use Rattle.std.specs.Prelude.{ℕ, ◌≡◌, ◌↔◌, true, false, cond, length, take, drop, replicate, Result, Ok, Err, is_ok}
use mathlib.Core.List.{List, [], ◌∷◌, ◌++◌, Memᴰ}
use Rattle.graph.specs.Lists.{none, over}
use Rattle.search.specs.Job.{standard}
use Rattle.search.specs.Call.{Call, schedule_of, unfit_schedule, pairs, schedule_row, job_of}
use Rattle.search.specs.Admitted.{Schedule}
use Rattle.schedule.specs.declared.default_schedule.DefaultSchedule.{DefaultSchedule}

-- the pairs in force: W1, W2, W1, W2, ..
unfoldable pub pairs_in : DefaultSchedule → List ℕ
pairs_in d = take d.count d.numbers

-- until a sheet is accepted: our six rounds, and zeros behind them
unfoldable pub initial : DefaultSchedule
initial = record { numbers = over standard (replicate 32 0); count = length standard }

-- a sheet is loaded: where it is unfit it is rejected, and what was in force stays; else it is in force
unfoldable pub loading : DefaultSchedule → List ℕ → Result DefaultSchedule DefaultSchedule
loading d sheet =
    cond (unfit_schedule sheet) (Err d)
    (Ok (record { numbers = over sheet d.numbers; count = length sheet }))

-- what is in force after a sheet, accepted or rejected
abbrev pub in_force : Result DefaultSchedule DefaultSchedule → DefaultSchedule
in_force (Ok d) = d
in_force (Err d) = d

-- sheets are loaded one after another
unfoldable pub after : DefaultSchedule → List (List ℕ) → DefaultSchedule
after d [] = d
after d (sheet ∷ sheets) = after (in_force (loading d sheet)) sheets

-- none of the sheets is a schedule, and so each is rejected
abbrev pub Rejected : List (List ℕ) → Type 0
Rejected sheets = (sheet : List ℕ) → Memᴰ sheet sheets → Schedule sheet → ⊥

-- the sentences of E3 about loading; proved in proofs/DefaultSchedule
pub record Loads : Type 0 where
  -- a sheet is tested by the rules for schedules, and an empty one is none
  pub tested : (d : DefaultSchedule) (sheet : List ℕ) → is_ok (loading d sheet) ≡ true ↔ Schedule sheet
  -- an accepted sheet is what is in force, all of it is counted, and the numbers behind it are as they were
  pub taken : (d : DefaultSchedule) (sheet : List ℕ) → is_ok (loading d sheet) ≡ true → pairs_in (in_force (loading d sheet)) ≡ sheet
  pub counted : (d : DefaultSchedule) (sheet : List ℕ) → is_ok (loading d sheet) ≡ true → (in_force (loading d sheet)).count ≡ length sheet
  pub behind :
      (d : DefaultSchedule) (sheet : List ℕ) → is_ok (loading d sheet) ≡ true →
      drop (length sheet) (in_force (loading d sheet)).numbers ≡ drop (length sheet) d.numbers
  -- a rejected one leaves the previous one in force
  pub kept : (d : DefaultSchedule) (sheet : List ℕ) → is_ok (loading d sheet) ≡ false → in_force (loading d sheet) ≡ d
  -- at first our six, and they stand until a sheet is accepted; then the latest accepted one
  pub first : pairs_in initial ≡ standard
  pub until : (sheets : List (List ℕ)) → Rejected sheets → after initial sheets ≡ initial
  pub latest :
      (d : DefaultSchedule) (sheets : List (List ℕ)) (sheet : List ℕ) → Schedule sheet → (later : List (List ℕ)) → Rejected later →
      pairs_in (after d (sheets ++ sheet ∷ later)) ≡ sheet
  -- whatever sheets were loaded in whatever order, row 10 passes what is in force
  pub fit : (sheets : List (List ℕ)) → schedule_row (pairs_in (after initial sheets)) ≡ none
  -- and so a call without a schedule of its own that is handed it passes, and has its rounds
  pub served :
      (sheets : List (List ℕ)) (c : Call) → c.schedule ≡ [] → c.default_schedule ≡ pairs_in (after initial sheets) →
      (schedule_row (schedule_of c) ≡ none) × ((job_of c).schedule ≡ pairs (pairs_in (after initial sheets)))

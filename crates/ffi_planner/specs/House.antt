-- The default schedule for other languages, where it is called the house schedule: 32 numbers and a count.
use Rattle.std.specs.Prelude.{ℕ, ◌≡◌, cond, List, Result, is_ok}
use Rattle.schedule.specs.declared.default_schedule.DefaultSchedule.{DefaultSchedule}
use Rattle.schedule.specs.DefaultSchedule.{in_force}

abbrev pub house_of : List ℕ → ℕ → DefaultSchedule
house_of numbers count = record { numbers = numbers; count = count }

-- what is handed over after a sheet: 0 or refusal 10, and the house schedule then in force
pub record LoadedTo (l : Result DefaultSchedule DefaultSchedule) (r : ℕ) (house : DefaultSchedule) : Type 0 where
  pub number_is : r ≡ cond (is_ok l) 0 10
  pub house_is : house ≡ in_force l

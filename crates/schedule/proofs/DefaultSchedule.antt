-- Laws of loading: a sheet laid over the numbers, and what loading promises.
use Prim.Native.Nat.{ℕ, ◌≤◌}
use native.Mathlib.Omega.{arith}
use mathlib.Core.Path.{◌≡◌, refl, sym, ap, ◌∙◌}
use mathlib.Core.Logic.{◌↔◌}
use mathlib.Core.Bool.{Bool, true, false, true≢false, not}
use mathlib.Core.List.{List, [], ◌∷◌, ◌++◌, Memᴰ}
use lib.ListN.{length, drop, replicate}
use lib.Seq.{take-append_seam, drop-append_seam}
use Rattle.std.specs.Prelude.{is_ok}
use Rattle.graph.specs.Lists.{none, over}
use Rattle.search.specs.Job.{standard}
use Rattle.search.specs.Call.{Call, schedule_of, out_of_range, rising, unfit_schedule, pairs, row, schedule_row, job_of}
use Rattle.search.specs.Admitted.{Schedule}
use Rattle.search.proofs.Admitted.{schedules, job_schedule, force_default}
use Rattle.schedule.specs.declared.default_schedule.DefaultSchedule.{DefaultSchedule}
use Rattle.schedule.specs.DefaultSchedule.{pairs_in, initial, loading, in_force, after, Rejected, Loads}

-- what is within the numbers' room, where a sheet is not rejected
pub sheet_short : (sheet : List ℕ) → unfit_schedule sheet ≡ false → length sheet ≤ 32
sheet_short sheet e = let y : Schedule sheet = (schedules sheet).0 e in omega (arith, y.few, y.two)

-- ---- the promises

pairs_over : (sheet old : List ℕ) → pairs_in (record { numbers = over sheet old; count = length sheet }) ≡ sheet
unfolding pairs_in over
pairs_over sheet old = take-append_seam sheet (drop (length sheet) old)

-- by the test of the sheet
module _ (d : DefaultSchedule) (sheet : List ℕ) where
  accepted_by : (b : Bool) → unfit_schedule sheet ≡ b → is_ok (loading d sheet) ≡ not b
  unfolding loading
  accepted_by true e = rw e
  accepted_by false e = rw e

  tested_by : (b : Bool) → unfit_schedule sheet ≡ b → is_ok (loading d sheet) ≡ true ↔ Schedule sheet
  tested_by true e = (λ a. absurd (true≢false (sym a ∙ accepted_by true e)), λ y. absurd (true≢false (sym e ∙ (schedules sheet).1 y)))
  tested_by false e = (λ a. (schedules sheet).0 e, λ y. accepted_by false e)

  taken_by : (b : Bool) → unfit_schedule sheet ≡ b → is_ok (loading d sheet) ≡ true → pairs_in (in_force (loading d sheet)) ≡ sheet
  unfolding loading
  taken_by true e a = absurd (true≢false (sym a ∙ accepted_by true e))
  taken_by false e a = rw e (pairs_over sheet d.numbers)

  counted_by : (b : Bool) → unfit_schedule sheet ≡ b → is_ok (loading d sheet) ≡ true → (in_force (loading d sheet)).count ≡ length sheet
  unfolding loading
  counted_by true e a = absurd (true≢false (sym a ∙ accepted_by true e))
  counted_by false e a = rw e

  behind_by :
      (b : Bool) → unfit_schedule sheet ≡ b → is_ok (loading d sheet) ≡ true →
      drop (length sheet) (in_force (loading d sheet)).numbers ≡ drop (length sheet) d.numbers
  unfolding loading over
  behind_by true e a = absurd (true≢false (sym a ∙ accepted_by true e))
  behind_by false e a = rw e (drop-append_seam sheet (drop (length sheet) d.numbers))

  kept_by : (b : Bool) → unfit_schedule sheet ≡ b → is_ok (loading d sheet) ≡ false → in_force (loading d sheet) ≡ d
  unfolding loading
  kept_by true e a = rw e
  kept_by false e a = absurd (true≢false (sym (accepted_by false e) ∙ a))

  rejected_by : (b : Bool) → unfit_schedule sheet ≡ b → (Schedule sheet → ⊥) → is_ok (loading d sheet) ≡ false
  rejected_by true e h = accepted_by true e
  rejected_by false e h = absurd (h ((schedules sheet).0 e))

  fit_by : (b : Bool) → unfit_schedule sheet ≡ b → unfit_schedule (pairs_in d) ≡ false → unfit_schedule (pairs_in (in_force (loading d sheet))) ≡ false
  fit_by true e h = ap (λ (x : DefaultSchedule). unfit_schedule (pairs_in x)) (kept_by true e (accepted_by true e)) ∙ h
  fit_by false e h = ap unfit_schedule (taken_by false e (accepted_by false e)) ∙ e

-- over all sheets

until_all : (d : DefaultSchedule) (sheets : List (List ℕ)) → Rejected sheets → after d sheets ≡ d
unfolding after
until_all d [] h = refl
until_all d (sheet ∷ sheets) h =
    let r : in_force (loading d sheet) ≡ d
    = kept_by d sheet (unfit_schedule sheet) refl (rejected_by d sheet (unfit_schedule sheet) refl (h sheet (Memᴰ.head refl))) in
    let s : after d (sheet ∷ sheets) ≡ after d sheets = cc in
    s ∙ until_all d sheets (λ x m. h x (Memᴰ.tail m))

after_latest :
    (d : DefaultSchedule) (sheets : List (List ℕ)) (sheet : List ℕ) → Schedule sheet → (later : List (List ℕ)) → Rejected later →
    pairs_in (after d (sheets ++ sheet ∷ later)) ≡ sheet
unfolding after
after_latest d [] sheet y later h =
    let e : unfit_schedule sheet ≡ false = (schedules sheet).1 y in
    ap pairs_in (until_all (in_force (loading d sheet)) later h) ∙ taken_by d sheet false e (accepted_by d sheet false e)
after_latest d (x ∷ sheets) sheet y later h = after_latest (in_force (loading d x)) sheets sheet y later h

fit_all : (d : DefaultSchedule) (sheets : List (List ℕ)) → unfit_schedule (pairs_in d) ≡ false → unfit_schedule (pairs_in (after d sheets)) ≡ false
unfolding after
fit_all d [] h = h
fit_all d (sheet ∷ sheets) h = fit_all (in_force (loading d sheet)) sheets (fit_by d sheet (unfit_schedule sheet) refl h)

at_first : pairs_in initial ≡ standard
unfolding initial
at_first = pairs_over standard (replicate 32 0)

fit_first : unfit_schedule standard ≡ false
unfolding standard unfit_schedule out_of_range rising
fit_first = refl

fits : (sheets : List (List ℕ)) → schedule_row (pairs_in (after initial sheets)) ≡ none
unfolding schedule_row row
fits sheets = rw (fit_all initial sheets (ap unfit_schedule at_first ∙ fit_first))

serves :
    (sheets : List (List ℕ)) (c : Call) → c.schedule ≡ [] → c.default_schedule ≡ pairs_in (after initial sheets) →
    (schedule_row (schedule_of c) ≡ none) × ((job_of c).schedule ≡ pairs (pairs_in (after initial sheets)))
serves sheets c own default =
    let e : schedule_of c ≡ pairs_in (after initial sheets) = force_default c own ∙ default in
    (ap schedule_row e ∙ fits sheets, job_schedule c ∙ ap pairs e)

pub loads : Loads
loads =
    record {
      tested = λ d sheet. tested_by d sheet (unfit_schedule sheet) refl;
      taken = λ d sheet. taken_by d sheet (unfit_schedule sheet) refl;
      counted = λ d sheet. counted_by d sheet (unfit_schedule sheet) refl;
      behind = λ d sheet. behind_by d sheet (unfit_schedule sheet) refl;
      kept = λ d sheet. kept_by d sheet (unfit_schedule sheet) refl;
      first = at_first;
      until = until_all initial;
      latest = after_latest;
      fit = fits;
      served = serves;
    }

-- its count is within its numbers
pub standard_fits : (d : DefaultSchedule) → d ≡ initial → d.count ≤ length d.numbers
unfolding initial standard over
standard_fits d e = rw e (omega arith)

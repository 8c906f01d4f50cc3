-- The four figures (ffi_numbers specs/Figures) of a plan that was read or written.
use Rattle.ffi_plans.specs.declared.Figures.{Figures}
use Rattle.std.specs.Prelude.{ℕ, List, ◌≡◌, Ok, Err}
use Rattle.ffi_numbers.specs.Figures.{figures}
use Rattle.graph.specs.Refusal.{PlanRead, PlanWritten, number_of}

-- V and M, or the refusal
abbrev pub plan_figures : PlanRead → List ℕ
plan_figures (Ok z) = figures 0 0 z.vertices z.edges
plan_figures (Err e) = figures (number_of e.cause) e.at 0 0

-- the count of bytes, or the refusal
abbrev pub count_figures : PlanWritten → List ℕ
count_figures (Ok n) = figures 0 0 n 0
count_figures (Err e) = figures (number_of e.cause) e.at 0 0

-- the figures of a plan that was checked or read
abbrev pub ShowsPlan : PlanRead → Figures → Type 0
ShowsPlan r f = f.0 ≡ plan_figures r

-- the figures of a plan that was written
abbrev pub ShowsCount : PlanWritten → Figures → Type 0
ShowsCount w f = f.0 ≡ count_figures w

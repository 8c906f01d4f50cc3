-- Numbers stored at an array's front, the call that they ask, and the text of what it hands over.
use Prim.Native.Nat.{ℕ, ◌+◌, ◌-◌, ◌*◌, ◌≤◌}
use native.Mathlib.Omega.{arith}
use native.Mathlib.Nat.{mul-le-mul_left}
use mathlib.Core.Path.{◌≡◌, sym, ap, ◌∙◌}
use mathlib.Core.List.{List}
use lib.ListN.{length, take, drop, replicate, length-drop, length-replicate}
use lib.Seq.{sets, sets-eq, length-sets, length-take-le, take_at, take_all}
use Rattle.search.specs.declared.Answer.{Answer}
use Rattle.search.specs.Job.{standard}
use Rattle.search.specs.Call.{Call}
use Rattle.search.specs.Outcome.{figures, answer, memory_after}
use Rattle.job.specs.declared.Front.{Front}
use Rattle.std.specs.Prelude.{Result, Ok}
use Rattle.graph.specs.declared.refusal.Refusal.{Refusal}
use Rattle.job.specs.Reading.{job_read, plan_of, table_count}
use Rattle.job.specs.Numbers.{values}
use Rattle.job.specs.Asked.{factors_of, tables_of, anchor_of, sheets_of, zeros, call_with, call_asked}
use Rattle.job.specs.Printed.{printed, call_text}
use Rattle.job.proofs.Accepted.{Parts}
use Rattle.job.specs.Texts.{Texts}
use Rattle.schedule.specs.declared.default_schedule.DefaultSchedule.{DefaultSchedule}
use Rattle.schedule.specs.DefaultSchedule.{pairs_in, initial}
use Rattle.schedule.proofs.DefaultSchedule.{loads, standard_fits}
use Rattle.job_reader.specs.ButEdges.{read_but_edges}
use Rattle.job_reader.proofs.ButEdges.{LeftToCall, read_as}

-- ---- numbers stored at an array's front

-- its first n words are these
pub record Prefix (n : ℕ) (new vs : List ℕ) : Type 0 where
  pub is : take n new ≡ vs
  pub fits : n ≤ length new
  pub size : n ≡ length (take n new)

stored_prefix :
    (old new vs : List ℕ) (n : ℕ) → length vs ≡ n → n ≤ length old → new ≡ sets old 0 vs → Prefix n new vs
stored_prefix old new vs n size room stored =
    let fits : n ≤ length new = omega (arith, ap length stored, length-sets old 0 vs) in
    record {
      is = ap (take n) (stored ∙ sets-eq vs old 0 (omega arith)) ∙ take_at vs (drop (0 + length vs) old) n size;
      fits = fits;
      size = sym (length-take-le n new fits);
    }

-- the standard default schedule, at the front of its array
pub standard_prefix : (d : DefaultSchedule) → d ≡ initial → Prefix d.count d.numbers standard
unfolding pairs_in
standard_prefix d e =
    let fits : d.count ≤ length d.numbers = standard_fits d e in
    record {
      is = ap pairs_in e ∙ loads.first;
      fits = fits;
      size = sym (length-take-le d.count d.numbers fits);
    }

pub standard_few : (d : DefaultSchedule) → d ≡ initial → d.count ≤ 32
unfolding initial standard
standard_few d e = let twelve : d.count ≡ 12 = ap (λ (x : DefaultSchedule). x.count) e in omega arith

abbrev pub call_over : List ℕ → Front → List ℕ → List ℕ → List ℕ → List ℕ → Call
call_over plan f anchor sheets schedule six =
    record {
      bytes = plan;
      start = f.ends.start;
      goal = f.ends.goal;
      barred = f.ends.barred;
      anchor = anchor;
      sheets = sheets;
      count = f.guide_count;
      schedule = schedule;
      default_schedule = six;
      budget = f.ends.budget;
      memory = zeros;
    }

-- ---- a job that was read but for its plan's edges

module _ (s : List ℕ) (f : Front) (v : ℕ) (h : read_but_edges s ≡ Ok (f, v)) where
  abbrev left : LeftToCall s f v (job_read s)
  left = (read_as s).accepted f v h

  pub parts : Parts s f v left.edges
  parts = left.parts

  pub factors_few : 2 * f.round_count ≤ 32
  factors_few = omega (arith, parts.fits.rounds)

  pub numbers_few : (1 + f.guide_count) * v ≤ 2304
  numbers_few = omega (arith, mul-le-mul_left (1 + f.guide_count) parts.vertices, parts.fits.guides)

  pub numbers_all : length (tables_of s f v) ≡ (1 + f.guide_count) * v
  unfolding table_count
  numbers_all = parts.tables

  -- its factors and its tables, stored at the fronts of the arrays for them
  pub factors_stored :
      (old new : List ℕ) → length old ≡ 32 → new ≡ sets old 0 (values (2 * f.round_count) s f.factors_at) →
      Prefix (2 * f.round_count) new (factors_of s f)
  unfolding factors_of
  factors_stored old new room stored =
      stored_prefix old new _ _ parts.fits.schedule (omega (arith, factors_few, room)) stored

  pub tables_stored :
      (old new : List ℕ) → length old ≡ 2304 → new ≡ sets old 0 (values ((1 + f.guide_count) * v) s f.tables_at) →
      Prefix ((1 + f.guide_count) * v) new (tables_of s f v)
  unfolding tables_of table_count
  tables_stored old new room stored = stored_prefix old new _ _ numbers_all (omega (arith, numbers_few, room)) stored

  module _ (factors tables : List ℕ) (a : factors ≡ factors_of s f) (b : tables ≡ tables_of s f v) where
    -- the call over what was stored is the job's
    pub call_is :
        (six : List ℕ) → six ≡ standard →
        call_over (take (f.plan_end - f.plan_at) (drop f.plan_at s)) f (take v tables) (drop v tables) factors six ≡ call_asked s f v
    unfolding call_asked call_with plan_of anchor_of sheets_of
    call_is six e = rw (b, a, e)

-- ---- what a call hands over

pub handed_text :
    (c : Call) (a : Result Answer Refusal) (route log : List ℕ) {old : List ℕ} {r : ℕ} {new : List ℕ} → a ≡ answer c → route ≡ (memory_after c).route →
    log ≡ (memory_after c).log → Texts (printed (figures a) route log) old r new → Texts (call_text c) old r new
unfolding call_text
handed_text c a route log e f g t = rw (e, f, g) at t

-- How long the text of an answer is, and a whole text from a buffer's front on.
use Prim.Native.Nat.{ℕ, ◌^◌, ◌≤◌, ◌<◌}
use native.Mathlib.Omega.{arith}
use mathlib.Core.Path.{◌≡◌, refl}
use mathlib.Core.List.{List, ◌++◌}
use lib.ListN.{length, take, length-append}
use Rattle.std.specs.Borrow.{MutBor}
use Rattle.std.specs.Prelude.{Result, Ok, Err}
use Rattle.text.specs.Text.{turn_lines, no_route_line, unfinished_line, refused_line}
use Rattle.graph.specs.Refusal.{number_of}
use Rattle.graph.specs.declared.refusal.Cause.{Cause}
use Rattle.graph.specs.declared.refusal.Cause.TheVariants as cause
use Rattle.graph.specs.declared.refusal.Refusal.{Refusal}
use Rattle.search.specs.declared.Summary.{Summary}
use Rattle.search.specs.declared.Answer.{Answer}
use Rattle.search.specs.Outcome.{figures}
use Rattle.job.specs.Asked.{route_size, log_size}
use Rattle.job.specs.Texts.{max_end, max_text, Texts}
use Rattle.job.proofs.Lines.{alone, Words, turns_few, route_few, end_few, no_route_few, unfinished_few, refused_few}
use Rattle.printing.specs.declared.writer.Writer.{Writer}
use Rattle.printing.specs.Shown.{refusal_shown, figures_by}
use Rattle.printing.specs.Writing.{Starts, Wrote, route_end, route_text}

-- the numbers of a summary are of 64 bits
abbrev pub Small : Summary → Type 0
Small s = (s.cost < 2 ^ 64) × (s.rounds < 2 ^ 64) × (s.expansions < 2 ^ 64) × (s.bound < 2 ^ 64)

pub route_end_few :
    (s : Summary) (route : List ℕ) → Words route → length route ≤ route_size → Small s →
    length (route_end s route) ≤ max_end
route_end_few s route words short small =
    simp length-append (omega (arith, route_few s.length route words short, end_few s.cost s.rounds s.expansions s.bound small.0 small.1 small.2 small.3))

-- after the turn lines
module _ (log : List ℕ) (words : Words log) (short : length log ≤ log_size) where
  after_turns_few : (n : ℕ) (line : List ℕ) → length line ≤ max_end → length (turn_lines (take n log) ++ line) ≤ max_text
  after_turns_few n line few = simp length-append (omega (arith, turns_few n log words short))

  pub route_few_in_all :
      (s : Summary) (route : List ℕ) → Words route → length route ≤ route_size → Small s →
      length (route_text s route log) ≤ max_text
  route_few_in_all s route w h small = after_turns_few s.expansions _ (route_end_few s route w h small)

  pub no_route_few_in_all : (n : ℕ) → n < 2 ^ 64 → length (turn_lines (take n log) ++ no_route_line n) ≤ max_text
  no_route_few_in_all n h = after_turns_few n (no_route_line n) (omega (arith, no_route_few n h))

  pub unfinished_few_in_all : (n : ℕ) → n < 2 ^ 64 → length (turn_lines (take n log) ++ unfinished_line n) ≤ max_text
  unfinished_few_in_all n h = after_turns_few n (unfinished_line n) (omega (arith, unfinished_few n h))

-- a refusal's line: its number is small
few_causes : (c : Cause) → number_of c ≤ 15
unfolding number_of
few_causes cause.Number = omega arith
few_causes cause.VertexCount = omega arith
few_causes cause.EdgeCount = omega arith
few_causes cause.Vertex = omega arith
few_causes cause.Cost = omega arith
few_causes cause.Order = omega arith
few_causes cause.LeftOver = omega arith
few_causes cause.Ends = omega arith
few_causes cause.Tables = omega arith
few_causes cause.Schedule = omega arith
few_causes cause.Memory = omega arith
few_causes cause.Goal = omega arith
few_causes cause.AnchorRule = omega arith
few_causes cause.Job = omega arith
few_causes cause.Class = omega arith

pub refusal_few : (e : Refusal) → e.at < 2 ^ 64 → length (refused_line (number_of e.cause) e.at) ≤ 53
refusal_few e h = refused_few (number_of e.cause) e.at (omega (arith, few_causes e.cause)) h

-- by a row of the table the figures are the answer's own
pub figures_shown : (a : Result Answer Refusal) → figures_by refusal_shown a ≡ figures a
unfolding figures_by figures
figures_shown (Ok a) = refl
figures_shown (Err e) = refl

-- a text written from the front on, as the buffer is left
pub whole :
    {text : List ℕ} {start end : Writer} {out : MutBor (List ℕ)} {new : List ℕ} → Starts start out → Wrote text start end → length text ≤ max_text →
    new ≡ end.out.now → Texts text out.now end.at new
whole s w few left = alone few (record { next = omega (arith, w.put.next, s.front); memory = cc (left, w.put.memory, s.front, s.memory) })

-- How long the lines are where every number is one of 32 or 64 bits, and the text that they make.
use Prim.Native.Nat.{ℕ, ◌+◌, ◌*◌, ◌^◌, ◌<◌, ◌≤◌}
use native.Mathlib.Omega.{arith}
use mathlib.Core.Path.{sym, subst}
use mathlib.Core.List.{List, ◌++◌}
use lib.ListN.{length, get_or, take, length-take}
use lib.Seq.{get_or-take}
use mir.Val.{Fits}
use mir.Syntax.{w32}
use Rattle.text.specs.Laid.{Put}
use Rattle.text.specs.Text.{logged_line, each, turn_lines, reach_line, route_line, end_line, no_route_line, unfinished_line, refused_line}
use Rattle.text.proofs.Laid.{put_length, then_put}
use Rattle.text.proofs.Lengths.{length_each, length_turn_line, length_end_line, length_no_route_line, length_unfinished_line, length_refused_line, length_route_line, length_reach_line}
use Rattle.graph.specs.declared.Edge.{Edge}
use Rattle.job.specs.Reading.{max_job_vertices, max_job_edges}
use Rattle.job.specs.Asked.{route_size, log_size}
use Rattle.job.specs.Explained.{edge_line}
use Rattle.job.specs.Texts.{max_end, max_text, Texts}

-- every word is one of 32 bits
abbrev pub Words : List ℕ → Type 0
Words l = (i : ℕ) → Fits w32 (get_or l i 0)

module _ (n : ℕ) (l : List ℕ) (words : Words l) where
  shown_few : (m : ℕ) → length l ≤ m → length (take n l) ≤ m
  shown_few m h = omega (arith, length-take n l)

  shown_word : (i : ℕ) → i < length (take n l) → get_or (take n l) i 0 < 2 ^ 32
  shown_word i h =
      subst (λ (x : ℕ). x < 2 ^ 32) (sym (get_or-take n l i 0 (omega (arith, length-take n l)))) (omega (arith, words i))

  pub turns_few : length l ≤ log_size → length (turn_lines (take n l)) ≤ log_size * 35
  unfolding turn_lines logged_line
  turns_few h =
      let few : length (take n l) ≤ log_size = shown_few log_size h in
      omega (
        arith,
        length_each logged_line 35 1 (take n l)
            (λ i b. length_turn_line 5 (omega arith) (1 + i) _ _ (omega arith) (omega (arith, shown_word i b)) (omega (arith, shown_word i b))),
      )

  pub route_few : length l ≤ route_size → length (route_line (take n l)) ≤ 6 + route_size * 11
  route_few h =
      let few : length (take n l) ≤ route_size = shown_few route_size h in
      omega (arith, length_route_line 10 (omega arith) (take n l) (λ i b. omega (arith, shown_word i b)))

pub end_few :
    (c r t b : ℕ) → c < 2 ^ 64 → r < 2 ^ 64 → t < 2 ^ 64 → b < 2 ^ 64 → length (end_line c r t b) ≤ 112
end_few c r t b p q u w = length_end_line 20 (omega arith) c r t b (omega arith) (omega arith) (omega arith) (omega arith)

pub no_route_few : (t : ℕ) → t < 2 ^ 64 → length (no_route_line t) ≤ 36
no_route_few t p = length_no_route_line 20 (omega arith) t (omega arith)

pub unfinished_few : (t : ℕ) → t < 2 ^ 64 → length (unfinished_line t) ≤ 38
unfinished_few t p = length_unfinished_line 20 (omega arith) t (omega arith)

pub refused_few : (n p : ℕ) → n < 2 ^ 64 → p < 2 ^ 64 → length (refused_line n p) ≤ 53
refused_few n p q r = length_refused_line 20 (omega arith) n p (omega arith) (omega arith)

-- ---- the text of an ending

-- one text alone, and one after the turn lines
pub alone : {line old : List ℕ} {r : ℕ} {new : List ℕ} → length line ≤ max_text → Put 0 line old r new → Texts line old r new
alone h p = record { put = p; few = omega (arith, p.next) }

pub after_turns :
    {old : List ℕ} {at : ℕ} {mid : List ℕ} {r : ℕ} {new : List ℕ} (n : ℕ) (log line : List ℕ) → Words log → length log ≤ log_size → r ≤ at + max_end →
    Put 0 (turn_lines (take n log)) old at mid → Put at line mid r new → Texts (turn_lines (take n log) ++ line) old r new
after_turns n log line words short few first second =
    record { put = then_put first second; few = omega (arith, turns_few n log words short, first.next) }

-- ---- the text of an explanation

module _ (n : ℕ) (l : List ℕ) (words : Words l) where
  pub reach_few : length l ≤ max_job_vertices → length (reach_line (take n l)) ≤ 6 + route_size * 11
  reach_few h =
      let few : length (take n l) ≤ max_job_vertices = shown_few n l words max_job_vertices h in
      omega (arith, length_reach_line 10 (omega arith) (take n l) (λ i b. omega (arith, shown_word n l words i b)))

pub edges_few :
    (edges : List Edge) (js : List ℕ) → length js ≤ max_job_edges → ((i : ℕ) → i < length js → length (edge_line edges 0 (get_or js i 0)) ≤ 88) →
    length (each (edge_line edges) 0 js) ≤ max_job_edges * 88
unfolding edge_line
edges_few edges js few h = omega (arith, length_each (edge_line edges) 88 0 js h)

-- ---- a buffer that has room for every text

pub text_fits : {text old : List ℕ} {r : ℕ} {new : List ℕ} → max_text ≤ length old → Texts text old r new → r ≤ length new
text_fits h t = omega (arith, t.few, put_length t.put)

-- A text in the bench program's lent buffer, and its most bytes.
use Rattle.std.specs.Prelude.{ℕ, ◌+◌, ◌*◌, ◌≤◌, ◌≡◌, List, length, Ok}
use Rattle.text.specs.Laid.{Put}
use Rattle.job.specs.declared.Front.{Front}
use Rattle.job.specs.Reading.{job_read}
use Rattle.job.specs.Asked.{route_size, log_size, call_asked}
use Rattle.job.specs.Printed.{bench_text, EveryTurn}

-- the most bytes of `last_lines`: the route line and the end line
abbrev pub max_end : ℕ
max_end = 6 + route_size * 11 + 112

-- no text is longer: a turn line for each log word, and the last lines; an explanation, which has no turn lines, takes fewer bytes
abbrev pub max_text : ℕ
max_text = log_size * 35 + max_end

-- a text is put at the buffer's front, as far as there is room, and is no longer than that
pub record Texts (text old : List ℕ) (r : ℕ) (new : List ℕ) : Type 0 where
  pub put : Put 0 text old r new
  pub few : r ≤ max_text

-- a job's text in the buffer; an accepted job's has a line for every turn of the call that it asks
pub record Prints (s old : List ℕ) (r : ℕ) (new : List ℕ) : Type 0 where
  pub texts : Texts (bench_text s) old r new
  pub every_turn : (f : Front) (v : ℕ) → job_read s ≡ Ok (f, v) → EveryTurn (call_asked s f v)

-- route and log memory are no longer than the bench program's
pub record BenchSized (route log : List ℕ) : Type 0 where
  pub short_route : length route ≤ route_size
  pub short_log : length log ≤ log_size

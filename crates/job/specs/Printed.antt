-- What the bench program prints for a job's bytes.
use Rattle.std.specs.Prelude.{ℕ, ◌≤◌, ◌≡◌, List, ◌++◌, map, length, take, Ok, Err}
use Rattle.text.specs.Text.{turn_lines, route_line, end_line, no_route_line, unfinished_line, refused_line}
use Rattle.graph.specs.Lists.{none}
use Rattle.search.specs.Call.{Call, fault_of}
use Rattle.search.specs.Outcome.{Ending, route, no_route, unfinished, refused, Figures, figures, log_word, outcome, answer, memory_after}
use Rattle.graph.specs.Refusal.{number_of}
use Rattle.job.specs.Reading.{JobRead, job_read}
use Rattle.job.specs.Asked.{call_asked}

-- the turns that log memory shows
unfoldable pub turns : Figures → List ℕ → List ℕ
turns f log = turn_lines (take f.turns log)

-- how a text ends: the route line and the end line, or `no route turns T`, `unfinished turns T` or `refused N at P`
unfoldable pub last_lines : Ending → Figures → List ℕ → List ℕ
last_lines route f kept = route_line (take f.length kept) ++ end_line f.cost f.rounds f.turns f.bound
last_lines no_route f kept = no_route_line f.turns
last_lines unfinished f kept = unfinished_line f.turns
last_lines refused f kept = refused_line f.number f.position

-- what is printed of an answer's figures, route memory and log memory: the turn lines, of which a refusal has none, and how it ends
unfoldable pub printed : Figures → List ℕ → List ℕ → List ℕ
printed f kept log = turns f log ++ last_lines f.ending f kept

unfoldable pub call_text : Call → List ℕ
call_text c = printed (figures (answer c)) (memory_after c).route (memory_after c).log

unfoldable pub text_of : List ℕ → JobRead → List ℕ
text_of s (Ok (f, v)) = call_text (call_asked s f v)
text_of s (Err e) = refused_line (number_of e.cause) e.at

-- job bytes → printed text
unfoldable pub bench_text : List ℕ → List ℕ
bench_text s = text_of s (job_read s)

-- the turn lines are those of every turn of the call: the log holds them all. Proved of accepted jobs in proofs/Turns.antt
pub record EveryTurn (c : Call) : Type 0 where
  pub held : (figures (answer c)).turns ≤ length c.memory.log
  pub shown : fault_of c ≡ none → turns (figures (answer c)) (memory_after c).log ≡ turn_lines (map log_word (outcome c).history)

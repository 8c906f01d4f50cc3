-- The log holds every turn of an accepted job: at most 2·256 in each of 16 rounds.
use Prim.Native.Nat.{ℕ, ◌*◌, ◌≤◌}
use native.Mathlib.Omega.{arith}
use native.Mathlib.Nat.{mul-le-mul_left}
use mathlib.Core.Path.{◌≡◌, refl, sym, ap, ◌∙◌}
use mathlib.Core.List.{List, map}
use lib.ListN.{length, take, length-map, length-replicate}
use lib.Seq.{take_all}
use Rattle.std.specs.Prelude.{Ok}
use Rattle.leb128.proofs.Result.{ok_is}
use Rattle.graph.specs.declared.Size.{Size}
use Rattle.graph.specs.Refusal.{size_of}
use Rattle.graph.specs.Plan.{accepted, sizes}
use Rattle.graph.specs.Lists.{Fault, none, fault}
use Rattle.text.specs.Text.{turn_lines}
use Rattle.search.specs.Rounds.{Moment}
use Rattle.search.specs.Call.{Call, fault_of, job_in, job_from, job_of}
use Rattle.search.specs.Admitted.{Admitted}
use Rattle.search.specs.Outcome.{figures, log_word, outcome, answer_in, answer, memory_after}
use Rattle.search.specs.Guarantee.{Guarantee}
use Rattle.search.proofs.Admitted.{rounds_few}
use Rattle.search.proofs.Guarantee.{guaranteed, turns_few}
use Rattle.job.specs.declared.Front.{Front}
use Rattle.job.specs.Reading.{max_job_vertices, job_read}
use Rattle.job.specs.Asked.{log_size, zeros, call_with, call_asked}
use Rattle.job.specs.Printed.{turns, EveryTurn}
use Rattle.job.proofs.Accepted.{Ready, accepted_ready}

module _ (s : List ℕ) (f : Front) (v : ℕ) (h : job_read s ≡ Ok (f, v)) where
  abbrev c : Call
  c = call_asked s f v

  log_lent : length c.memory.log ≡ log_size
  unfolding call_asked call_with zeros
  log_lent = length-replicate {A = ℕ} log_size 0

  module _ (e : fault_of c ≡ none) where
    abbrev history : List Moment
    history = (outcome c).history

    abbrev log : List ℕ
    log = (memory_after c).log

    abbrev holds : Guarantee (job_of c) c.budget (outcome c) (answer c) (memory_after c)
    holds = (guaranteed c).guarantee e

    vertices_few : (job_of c).size ≤ max_job_vertices
    unfolding job_of job_from job_in call_asked call_with sizes
    vertices_few =
        let r : Ready s f v = accepted_ready s f v h in
        let y : Admitted c = (guaranteed c).exact.0 e in
        let p : sizes (accepted y.size y.edges) ≡ Ok (size_of v r.edges) = ap sizes (sym y.plan) ∙ r.sizes in
        let same : y.size ≡ v = ap (λ (z : Size). z.vertices) (ok_is p) in
        rw y.plan (omega (arith, r.parts.vertices))

    turns_held : length history ≤ length c.memory.log
    turns_held =
        omega (
          arith,
          log_lent,
          turns_few c e,
          mul-le-mul_left (2 * (job_of c).size) (rounds_few c e),
          vertices_few,
        )

    all_shown : turns (figures (answer c)) log ≡ turn_lines (map log_word history)
    unfolding turns
    all_shown =
        ap (λ (n : ℕ). turn_lines (take n log)) holds.turns ∙ ap turn_lines holds.logged
        ∙ ap turn_lines (take_all (length log) (map log_word history) (omega (arith, turns_held, (guaranteed c).lengths.1, length-map history log_word)))

  few_by : (d : Fault) → fault_of c ≡ d → (figures (answer_in c d)).turns ≤ length c.memory.log
  unfolding answer_in figures answer
  few_by none e = omega (arith, rw e at (holds e).turns, turns_held e)
  few_by (fault n p) e = omega arith

  pub every_turn : EveryTurn c
  unfolding answer
  every_turn = record { held = few_by (fault_of c) refl; shown = all_shown }

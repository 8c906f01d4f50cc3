-- Job A of document 01, as bytes, with the classes and the barred number of document 02 (E1), what is printed for it, and the lines of its explanation (E8). Proved in proofs/JobA.antt.
use Rattle.std.specs.Prelude.{ℕ, ◌≡◌, List, [], ◌∷◌, ◌++◌}
use Rattle.text.specs.Text.{ascii}
use Rattle.job.specs.Printed.{bench_text}
use Rattle.job.specs.Explained.{explain_text}

-- plan A with lane 0→1 of this class; document 02's is 0, as of the other lanes
abbrev pub plan_with : ℕ → List ℕ
plan_with class =
    0x04 ∷ 0x04
    ∷ 0x00 ∷ 0x01 ∷ 0x01 ∷ class
    ∷ 0x00 ∷ 0x02 ∷ 0x04 ∷ 0x00
    ∷ 0x01 ∷ 0x02 ∷ 0x02 ∷ 0x00
    ∷ 0x01 ∷ 0x03 ∷ 0x03 ∷ 0x00
    ∷ []

abbrev pub plan_a : List ℕ
plan_a = plan_with 0x00

-- job A as bytes, with lane 0→1 of this class, these bytes of the barred number, an allowance of one byte, and these of the rounds
abbrev pub job_on : ℕ → List ℕ → ℕ → List ℕ → List ℕ
job_on class barred budget rounds =
    0x12
    ∷ (plan_with class
    ++ (0x00 ∷ 0x03 ∷ [])
    ++ barred
    ++ (budget ∷ [])
    ++ rounds
    ++ (0x01 ∷ 0x06 ∷ 0x05 ∷ 0x03 ∷ 0x00 ∷ 0x00 ∷ 0x09 ∷ 0x00 ∷ 0x00 ∷ []))

-- with its own two rounds
abbrev pub job_with : ℕ → List ℕ → ℕ → List ℕ
job_with class barred budget = job_on class barred budget (0x02 ∷ 0xC8 ∷ 0x01 ∷ 0xC8 ∷ 0x01 ∷ 0x64 ∷ 0x64 ∷ [])

-- no class is barred; document 01's allowance is 0x64
abbrev pub job_a : ℕ → List ℕ
job_a budget = job_with 0x00 (0x00 ∷ []) budget

pub record PrintsA : Type 0 where
  -- (p) Job A: document 01's six lines
  pub whole :
      bench_text (job_a 0x64)
      ≡ ascii
      "turn 1 table 1 place 0\nturn 2 table 1 place 2\nturn 3 table 0 place 1\nturn 4 table 1 place 2\nroute 0 1 2 3\nend cost 6 rounds 2 turns 4 bound 10000\n"
  -- (p) allowance 2: route 0 2 3, cost 7, one round, bound 40000
  pub at_2 :
      bench_text (job_a 2)
      ≡ ascii "turn 1 table 1 place 0\nturn 2 table 1 place 2\nroute 0 2 3\nend cost 7 rounds 1 turns 2 bound 40000\n"
  -- (p) allowance 1: unfinished
  pub at_1 : bench_text (job_a 1) ≡ ascii "turn 1 table 1 place 0\nunfinished turns 1\n"
  -- class 1, which lane 0→1 has, barred
  pub barred :
      bench_text (job_with 0x01 (0x02 ∷ []) 0x64)
      ≡ ascii "turn 1 table 1 place 0\nturn 2 table 1 place 2\nroute 0 2 3\nend cost 7 rounds 2 turns 2 bound 10000\n"
  -- a barred number of 256: 8; of bad form (here not shortest): 14
  pub barred_256 : bench_text (job_with 0x00 (0x80 ∷ 0x02 ∷ []) 0x64) ≡ ascii "refused 8 at 0\n"
  pub barred_malformed : bench_text (job_with 0x00 (0x80 ∷ 0x00 ∷ []) 0x64) ≡ ascii "refused 14 at 0\n"
  -- without rounds it is planned on our six
  pub no_rounds :
      bench_text (job_on 0x00 (0x00 ∷ []) 0x64 (0x00 ∷ []))
      ≡ ascii
      "turn 1 table 1 place 0\nturn 2 table 1 place 2\nturn 3 table 0 place 1\nturn 4 table 1 place 2\nroute 0 1 2 3\nend cost 6 rounds 6 turns 4 bound 10000\n"
  -- class 8: 15, at its offset in the plan
  pub class_8 : bench_text (job_with 0x08 (0x00 ∷ []) 0x64) ≡ ascii "refused 15 at 5\n"

pub record ExplainsA : Type 0 where
  -- class 0 barred: only lane 0→1 is permitted; two barred lanes leave places 0 and 1, the third does not start there
  pub barred :
      explain_text (job_with 0x01 (0x01 ∷ []) 0x64)
      ≡ ascii
      "no route turns 2\nreach 0 1\nbarred lane 1 tail 0 head 2 cost 4 class 0\nbarred lane 2 tail 1 head 2 cost 2 class 0\n"
  -- with a route, unfinished or refused: what is printed of the job, without turn lines
  pub route : explain_text (job_with 0x01 (0x02 ∷ []) 0x64) ≡ ascii "route 0 2 3\nend cost 7 rounds 2 turns 2 bound 10000\n"
  pub at_1 : explain_text (job_with 0x01 (0x01 ∷ []) 1) ≡ ascii "unfinished turns 1\n"
  pub barred_256 : explain_text (job_with 0x00 (0x80 ∷ 0x02 ∷ []) 0x64) ≡ ascii "refused 8 at 0\n"
  pub class_8 : explain_text (job_with 0x08 (0x00 ∷ []) 0x64) ≡ ascii "refused 15 at 5\n"

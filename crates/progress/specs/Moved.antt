-- The record at first, and the largest count: for contracts alone, nothing that a reader must believe.
use Rattle.std.specs.Prelude.{ℕ}
use Rattle.search.specs.declared.Progress.{Progress}
use Rattle.search.specs.Rounds.{first_turn}

-- the largest count of turns or rounds
abbrev pub max_count : ℕ
max_count = 4294967295

-- the record at first
unfoldable pub first_progress : ℕ → Progress
first_progress n = record { turn = first_turn n; expansions = 0; rounds = 0; cost = 0 }

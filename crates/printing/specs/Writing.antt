-- A text written by a writer: for the contracts of this crate's inner functions, nothing that a reader must believe.
use Rattle.std.specs.Prelude.{ℕ, ◌≡◌, List, ◌++◌, take}
use Rattle.std.specs.Borrow.{MutBor}
use Rattle.text.specs.Laid.{Put}
use Rattle.text.specs.Text.{each, turn_lines, field, newline, route_line, end_line, no_route_line, reach_line}
use Rattle.graph.specs.declared.Edge.{Edge}
use Rattle.search.specs.declared.Summary.{Summary}
use Rattle.search.specs.declared.Explanation.{Explanation}
use Rattle.job.specs.Explained.{edge_line}
use Rattle.printing.specs.declared.writer.Writer.{Writer}

-- it begins at the front of the buffer that it was lent
pub record Starts (w : Writer) (out : MutBor (List ℕ)) : Type 0 where
  pub front : w.at ≡ 0
  pub memory : w.out.now ≡ out.now
  pub same : w.out.ghost_name ≡ out.ghost_name

-- the text was put where the writer stood, into the same buffer, and it stands after it
pub record Wrote (text : List ℕ) (old new : Writer) : Type 0 where
  pub put : Put old.at text old.out.now new.at new.out.now
  pub same : new.out.ghost_name ≡ old.out.ghost_name

-- ---- the texts of endings, by what the code has of them

abbrev pub route_end : Summary → List ℕ → List ℕ
route_end s route = route_line (take s.length route) ++ end_line s.cost s.rounds s.expansions s.bound

abbrev pub route_text : Summary → List ℕ → List ℕ → List ℕ
route_text s route log = turn_lines (take s.expansions log) ++ route_end s route

-- no route, or unfinished: by the words that say which
abbrev pub turns_text : List ℕ → ℕ → List ℕ → List ℕ
turns_text words turns log = turn_lines (take turns log) ++ (field words turns ++ newline)

abbrev pub reason_text : {R : Type 0} → ℕ → Explanation R → List Edge → List ℕ → List ℕ → List ℕ
reason_text turns e graph vertices edges =
    no_route_line turns ++ (reach_line (take e.vertices vertices) ++ each (edge_line graph) 0 (take e.edges edges))

-- The printed text of an answer, of a refusal and of an explanation in a lent buffer: for the contracts of this crate alone, nothing that a reader must believe.
use Rattle.std.specs.Prelude.{ℕ, ◌<◌, ◌≤◌, ◌≡◌, List, ◌++◌, length, get_or, take, Result, Ok, Err}
use Rattle.graph.specs.declared.Edge.{Edge}
use Rattle.graph.specs.declared.refusal.Refusal.{Refusal}
use Rattle.graph.specs.Refusal.{number_of}
use Rattle.text.specs.Text.{refused_line}
use Rattle.search.specs.declared.Answer.{Answer}
use Rattle.search.specs.declared.Explanation.{Explanation}
use Rattle.search.specs.Outcome.{no_route, refused, Figures, figures}
use Rattle.graph.specs.declared.Size.{Size}
use Rattle.workspace.specs.Layout.{graph_of, Whole}
use Rattle.job.specs.Reading.{max_job_vertices, max_job_edges}
use Rattle.job.specs.Asked.{route_size}
use Rattle.job.specs.Printed.{last_lines, printed}
use Rattle.job.specs.Explained.{edge_line, reason_lines}
use Rattle.job.specs.Texts.{Texts}

-- what is shown of a refusal by a row of the table
abbrev pub refusal_shown : Refusal → ℕ × ℕ
refusal_shown e = (number_of e.cause, e.at)

-- the figures of an answer, or of a refusal by what shows its number and its position
unfoldable pub figures_by : {R : Type 0} → (R → ℕ × ℕ) → Result Answer R → Figures
figures_by shown (Ok a) = figures (Ok a)
figures_by shown (Err e) =
    record { ending = refused; number = (shown e).0; position = (shown e).1; cost = 0; length = 0; rounds = 0; turns = 0; bound = 0 }

abbrev pub Shown : Figures → List ℕ → List ℕ → List ℕ → ℕ → List ℕ → Type 0
Shown f route log old r new = Texts (printed f route log) old r new

abbrev pub Refuses : ℕ → ℕ → List ℕ → ℕ → List ℕ → Type 0
Refuses n p old r new = Texts (refused_line n p) old r new

-- ---- an explanation

-- these are numbers of edges
abbrev pub Numbers : Size → List ℕ → Type 0
Numbers z list = (i : ℕ) → i < length list → get_or list i 0 < z.edges

-- what the lines of both lists ask: edges in work memory whose lines have at most 88 bytes, numbers of such edges, and lists no longer than a bench job's
pub record Listed (z : Size) (work vertices listed : List ℕ) : Type 0 where
  pub whole : Whole z work
  pub lines : (j : ℕ) → j < z.edges → length (edge_line (graph_of z work) 0 j) ≤ 88
  pub short_vertices : length vertices ≤ max_job_vertices
  pub short_edges : length listed ≤ max_job_edges
  pub numbers : Numbers z listed

-- what the text asks: this where there is no route, and route memory no longer than a bench job's
pub record Explainable {R : Type 0} (shown : R → ℕ × ℕ) (e : Explanation R) (z : Size) (route work vertices edges : List ℕ) : Type 0 where
  pub listed : (figures_by shown e.answer).ending ≡ no_route → Listed z work vertices (take e.edges edges)
  pub short_route : length route ≤ route_size

abbrev pub ExplainedShown : {R : Type 0} → (R → ℕ × ℕ) → Explanation R → List ℕ → List Edge → List ℕ → List ℕ → List ℕ → ℕ → List ℕ → Type 0
ExplainedShown shown e route graph vertices edges old r new =
    let f : Figures = figures_by shown e.answer in
    Texts
    (last_lines f.ending f route
    ++ reason_lines f.ending graph (take e.vertices vertices) (take e.edges edges))
    old
    r
    new

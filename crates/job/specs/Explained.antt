-- What is printed of an explanation: the lines of a job's bytes without the turn lines, and after `no route turns T` what can be reached and the
-- barred lanes that leave it.
use Rattle.std.specs.Prelude.{ℕ, List, [], ◌++◌, get_or, replicate, Ok, Err}
use Rattle.graph.specs.declared.Edge.{Edge}
use Rattle.text.specs.Text.{each, reach_line, barred_line, refused_line}
use Rattle.search.specs.Call.{Call, plan_edges}
use Rattle.search.specs.Outcome.{Ending, route, no_route, unfinished, refused, figures}
use Rattle.search.specs.Reason.{Inquiry, answered, call_memory, vertices_listed, edges_listed, lent}
use Rattle.graph.specs.Refusal.{number_of}
use Rattle.job.specs.Reading.{JobRead, max_job_vertices, max_job_edges, job_read}
use Rattle.job.specs.Asked.{call_asked}
use Rattle.job.specs.Printed.{last_lines}

-- the explanation of a bench job's call, which needs no log, with the least lists for 256 vertices and 2,048 edges
unfoldable pub inquiry_asked : Call → Inquiry
inquiry_asked c =
    record {
      call = lent c (record { route = c.memory.route; log = []; work = c.memory.work; wide = c.memory.wide });
      vertices = replicate max_job_vertices 0;
      edges = replicate max_job_edges 0;
    }

-- the line of edge number j of these, whichever line it is
unfoldable pub edge_line : List Edge → ℕ → ℕ → List ℕ
edge_line edges k j =
    let e : Edge = get_or edges j (record { tail = 0; head = 0; cost = 0; class = 0 }) in
    barred_line j e.tail e.head e.cost e.class

-- the lines of both lists, where there is no route
unfoldable pub reason_lines : Ending → List Edge → List ℕ → List ℕ → List ℕ
reason_lines route edges set leaving = []
reason_lines no_route edges set leaving = reach_line set ++ each (edge_line edges) 0 leaving
reason_lines unfinished edges set leaving = []
reason_lines refused edges set leaving = []

unfoldable pub inquiry_text : Inquiry → List ℕ
inquiry_text x =
    last_lines (figures (answered x)).ending (figures (answered x)) (call_memory x).route
    ++ reason_lines (figures (answered x)).ending (plan_edges x.call) (vertices_listed x) (edges_listed x)

unfoldable pub explained_as : List ℕ → JobRead → List ℕ
explained_as s (Ok (f, v)) = inquiry_text (inquiry_asked (call_asked s f v))
explained_as s (Err e) = refused_line (number_of e.cause) e.at

-- job bytes → the lines of its explanation
unfoldable pub explain_text : List ℕ → List ℕ
explain_text s = explained_as s (job_read s)

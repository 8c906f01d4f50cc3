-- `vertex` meets its contract.
use mathlib.Core.Path.{sym}
use Rattle.workspace.specs.Layout.{mem, vertex_at}
use Rattle.workspace.proofs.Written.{at_vertices_of}
use Rattle.workspace.proofs.Vertices.vertex.Goals as goal

pub returns : goal.returns
unfolding vertex_at
returns c =
    let s = c.args.self in
    rw (c.has_mark.ensures, c.has_mark-2.ensures, c.has_mark-3.ensures, c.has_mark-4.ensures, c.base.ensures)
    (sym (at_vertices_of s.size (mem s.work.now s.wide.now) c.args.p c.requires))

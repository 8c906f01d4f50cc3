-- `set_vertex` meets its contract.
use mathlib.Core.Path.{refl}
use Rattle.workspace.specs.Layout.{mem}
use Rattle.workspace.proofs.Spaces.{stored_becomes, stored_ready}
use Rattle.workspace.proofs.Workspace.set_vertex.Goals as goal

pub invariant_of-self : goal.invariant_of-self
invariant_of-self c =
    record { ready = stored_ready c.args.self.now (mem c.put.new.work c.put.new.wide) c.args.p c.args.x c.requires c.put.ensures }

pub returns : goal.returns
returns c =
    record {
      lent = record { size_is = refl; work_is = refl; wide_is = refl };
      becomes = stored_becomes c.args.self.now _ c.args.p c.args.x c.requires c.put.ensures;
    }

-- `begin` meets its contract.
use mathlib.Core.Path.{refl}
use Rattle.workspace.specs.Layout.{mem, Room}
use Rattle.workspace.proofs.Spaces.{becomes_ready, length_first}
use Rattle.workspace.proofs.Workspace.begin.Goals as goal

pub invariant_of-result : goal.invariant_of-result
invariant_of-result c =
    let z = c.args.size in
    let m = mem c.args.work.now c.args.wide.now in
    let m' = mem c.at_first.new.work c.at_first.new.wide in
    let r : Room z m = record { work = c.requires.0.room; wide = c.requires.1 } in
    record { ready = becomes_ready z m m' r c.requires.0 _ (length_first z.vertices c.args.start) c.at_first.ensures }

pub returns : goal.returns
returns c =
    record { lent = record { size_is = refl; work_is = refl; wide_is = refl }; becomes = c.at_first.ensures }

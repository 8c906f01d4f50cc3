-- `tail` meets its contract.
use Rattle.std.proofs.Common.{rules, leb}
use Rattle.std.proofs.lemmas.List.Sorted.{IsPartitionPoint-from_clause, IsPartitionedBy-leb}
use Rattle.workspace.proofs.Numbered.{ends_rise, tail_inside, tail_from, tail_to}
use Rattle.workspace.proofs.edge_words.tail.Goals as goal

pub returns : goal.returns
returns c =
    let z = c.args.z in
    let w = c.args.work.now in
    let r = c.requires.0 in
    let j = c.args.j in
    let parted = IsPartitionedBy-leb (λ n. n) _ j (ends_rise z w r) in
    let point = IsPartitionPoint-from_clause (λ n. leb n j) _ _ c.partition_point.ensures.partitioned parted (λ a r q k. search rules) in
    (tail_inside z w r j c.requires.1 _ point, tail_from z w r j c.requires.1 _ point, tail_to z w r j c.requires.1 _ point)

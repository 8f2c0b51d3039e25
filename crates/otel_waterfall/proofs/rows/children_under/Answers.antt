use Rattle.std.proofs.Common.{rules}
use Rattle.std.proofs.lemmas.List.Sorted.{IsPartitionPoint-from_clause}
use Rattle.otel_waterfall.proofs.Parents.{children_between, le, lt, partitioned_le, partitioned_lt, partitioned_take}
use Rattle.otel_waterfall.proofs.rows.children_under.Goals as goal

pub returns : goal.returns
returns c =
    let above = c.args.parent in
    let nodes = c.args.children.now in
    let end = c.partition_point-end in
    let start = c.partition_point-start in
    children_between above nodes end.result start.result end.ensures.bound start.ensures.bound
    (IsPartitionPoint-from_clause (le above) nodes end.result end.ensures.partitioned (partitioned_le nodes above c.requires) (λ a r f' called. search rules))
    (IsPartitionPoint-from_clause (lt above) _ start.result start.ensures.partitioned (partitioned_take (lt above) end.result nodes end.ensures.bound (partitioned_lt nodes above c.requires)) (λ a r f' called. search rules))

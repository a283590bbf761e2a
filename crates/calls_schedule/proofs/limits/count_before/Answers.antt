use Rattle.std.proofs.Common.{nat_lt, rules, sym}
use Rattle.std.proofs.lemmas.List.Sorted.{IsPartitionPoint-from_clause, IsPartitionedBy-ltb}
use Rattle.calls_schedule.proofs.Limiting.{count_first}
use Rattle.calls_schedule.proofs.limits.count_before.Goals as goal

pub returns : goal.returns
returns c =
    let starts = c.args.starts.now in
    let p = IsPartitionPoint-from_clause (λ start. nat_lt start c.args.position) starts
    c.partition_point.result c.partition_point.ensures.partitioned
    (IsPartitionedBy-ltb (λ x. x) starts c.args.position c.requires) (λ a r q k. search rules) in
    sym (count_first (λ start. nat_lt start c.args.position) c.partition_point.result starts
    c.partition_point.ensures.bound p.0 p.1)

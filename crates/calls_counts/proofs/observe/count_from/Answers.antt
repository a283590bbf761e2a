use Rattle.std.proofs.Common.{nat_lt, arith, rules}
use Rattle.std.proofs.lemmas.List.Sorted.{IsPartitionPoint-from_clause, IsPartitionedBy-ltb}
use Rattle.calls_counts.proofs.Searching.{count_behind}
use Rattle.calls_counts.proofs.observe.count_from.Goals as goal

pub returns : goal.returns
returns c =
    let numbers = c.args.numbers.now in
    let p = IsPartitionPoint-from_clause (λ f. nat_lt f c.args.from) numbers
    c.partition_point.result c.partition_point.ensures.partitioned (IsPartitionedBy-ltb (λ x.
    x) numbers c.args.from c.requires) (λ a r q k. search rules) in
    omega (
      arith,
      count_behind c.args.from c.partition_point.result numbers
          c.partition_point.ensures.bound p.0 p.1,
    )

use Rattle.std.proofs.Common.{arith, rules, ◌∙◌}
use Rattle.std.specs.Prelude.{nat_le}
use Rattle.std.proofs.lemmas.List.Sorted.{IsPartitionPoint-from_clause}
use Rattle.calls_schedule.specs.declared.lowering.Cap.{Cap}
use Rattle.calls_schedule.proofs.Capping.{capped_none, capped_some, caps_partitioned}
use Rattle.calls_schedule.proofs.lowering.capped.Goals as goal

pub returns-then-n-eq0 : goal.returns-then-n-eq0
returns-then-n-eq0 c bs e =
    let caps = c.args.caps.now in
    let p = IsPartitionPoint-from_clause (λ (cap : Cap). nat_le c.args.position cap.at) caps
    c.partition_point-n.result c.partition_point-n.ensures.partitioned
    (caps_partitioned c.args.position caps c.requires) (λ a r q k. search rules) in
    capped_none _ bs caps c.args.position c.args.limit c.partition_point-n.result e
    c.if-n-eq0.true p.1

pub returns-else-n-eq0 : goal.returns-else-n-eq0
returns-else-n-eq0 c bs e =
    let caps = c.args.caps.now in
    let p = IsPartitionPoint-from_clause (λ (cap : Cap). nat_le c.args.position cap.at) caps
    c.partition_point-n.result c.partition_point-n.ensures.partitioned
    (caps_partitioned c.args.position caps c.requires) (λ a r q k. search rules) in
    c.min.ensures
    ∙ capped_some _ bs caps c.args.position c.args.limit c.partition_point-n.result
    (record { at = 0; most = 0 }) e (omega (arith, c.ranges.limit))
    (omega (arith, c.if-n-eq0.false)) c.partition_point-n.ensures.bound p.0 p.1

use Rattle.std.proofs.Common.{rules, nat_lt}
use Rattle.std.proofs.lemmas.List.Sorted.{IsPartitionPoint-from_clause, IsPartitionedBy-ltb}
use Rattle.calls_buffers.specs.declared.jobs.Reach.{Reach}
use Rattle.calls_buffers.proofs.Tops.{top_found, top_zero}
use Rattle.calls_buffers.proofs.jobs.top_before.Goals as goal

pub returns-in-Some : goal.returns-in-Some
returns-in-Some c = λ list h. top_found list c.args.tops.now c.args.position
    c.partition_point-n.result c.in-Some.i _ h
    (λ up. IsPartitionPoint-from_clause (λ (r : Reach). nat_lt r.from c.args.position)
    c.args.tops.now _ c.partition_point-n.ensures.partitioned
    (IsPartitionedBy-ltb (λ (r : Reach). r.from) c.args.tops.now c.args.position up)
    (λ a r q k. search rules)) c.in-Some.ensures.0 c.in-Some.ensures.1 c.if-i-tops.true

pub returns-in_default-2 : goal.returns-in_default-2
returns-in_default-2 c = λ list h. top_zero list c.args.tops.now c.args.position
    c.partition_point-n.result h
    (λ up. IsPartitionPoint-from_clause (λ (r : Reach). nat_lt r.from c.args.position)
    c.args.tops.now _ c.partition_point-n.ensures.partitioned
    (IsPartitionedBy-ltb (λ (r : Reach). r.from) c.args.tops.now c.args.position up)
    (λ a r q k. search rules)) c.in_default.ensures

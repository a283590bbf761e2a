use Rattle.std.proofs.Common.{rules, arith, nat_lt}
use Rattle.std.proofs.lemmas.List.Sorted.{IsPartitionPoint-from_clause, IsPartitionedBy-ltb}
use Rattle.calls_buffers.specs.declared.accesses.Place.TheVariants.{Completed}
use Rattle.calls_buffers.specs.declared.accesses.Access.{Access}
use Rattle.calls_buffers.proofs.ByItems.{found_at, found_none}
use Rattle.calls_buffers.proofs.accesses.find.Goals as goal
use Rattle.calls_buffers.proofs.accesses.find.Goals.{else-i-list-via-then-i-list+else-list-i}
use Rattle.calls_buffers.proofs.accesses.find.Goals.{else-i-list-via-else-i-list}

pub returns-then-list-i : goal.returns-then-list-i
returns-then-list-i c = λ up.
    let list = c.args.list.now in
    let v = c.args.item in
    let parts = IsPartitionPoint-from_clause (λ (a : Access). nat_lt a.item v) list _
    c.partition_point-i.ensures.partitioned (IsPartitionedBy-ltb (λ (a : Access). a.item) list v up)
    (λ a r q k. search rules) in
    found_at list v _ _ parts.0 c.if-i-list.true c.if-list-i.true

pub returns-else-i-list : goal.returns-else-i-list
returns-else-i-list c = λ up.
    let list = c.args.list.now in
    let v = c.args.item in
    let parts = IsPartitionPoint-from_clause (λ (a : Access). nat_lt a.item v) list _
    c.partition_point-i.ensures.partitioned (IsPartitionedBy-ltb (λ (a : Access). a.item) list v up)
    (λ a r q k. search rules) in
    let d : Access = record { item = 0; place = Completed 0; first = 0; last = 0 } in
    found_none list v _ d up parts.0 parts.1
    (elim c.else-i-list.branch [
      | else-i-list-via-then-i-list+else-list-i w ↦ λ lt e. w.if-list-i.false e
      | else-i-list-via-else-i-list w ↦ λ lt e. absurd (omega (arith, w.if-i-list.false, lt))
    ])

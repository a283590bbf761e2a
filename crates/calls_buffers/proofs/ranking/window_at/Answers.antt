use Rattle.std.proofs.Common.{rules, arith, nat_lt, None}
use Rattle.std.proofs.lemmas.List.Sorted.{IsPartitionPoint-from_clause, IsPartitionedBy-ltb}
use Rattle.calls_buffers.specs.declared.accesses.Place.TheVariants.{Completed}
use Rattle.calls_buffers.specs.declared.windows.Window.{Window}
use Rattle.calls_buffers.proofs.InOrder.{found_at, found_none, rise}
use Rattle.calls_buffers.proofs.ranking.window_at.Goals as goal
use Rattle.calls_buffers.proofs.ranking.window_at.Goals.{else-i-windows-via-then-i-windows+else-windows-i}
use Rattle.calls_buffers.proofs.ranking.window_at.Goals.{else-i-windows-via-else-i-windows}

pub returns-then-windows-i : goal.returns-then-windows-i
returns-then-windows-i c = λ ascend.
    let list = c.args.windows.now in
    let up = rise list ascend in
    let v = c.args.item in
    let parts = IsPartitionPoint-from_clause (λ (a : Window). nat_lt a.item v) list _
    c.partition_point-i.ensures.partitioned (IsPartitionedBy-ltb (λ (a : Window). a.item) list v up)
    (λ a r q k. search rules) in
    found_at list v _ _ parts.0 c.if-i-windows.true c.if-windows-i.true

pub returns-else-i-windows : goal.returns-else-i-windows
returns-else-i-windows c = λ ascend.
    let list = c.args.windows.now in
    let up = rise list ascend in
    let v = c.args.item in
    let parts = IsPartitionPoint-from_clause (λ (a : Window). nat_lt a.item v) list _
    c.partition_point-i.ensures.partitioned (IsPartitionedBy-ltb (λ (a : Window). a.item) list v up)
    (λ a r q k. search rules) in
    let d : Window = record {
      item = 0;
      put = Completed 0;
      put_first = 0;
      put_last = 0;
      take = None;
      take_first = 0;
      take_last = 0;
    } in
    found_none list v _ d up parts.0 parts.1
    (elim c.else-i-windows.branch [
      | else-i-windows-via-then-i-windows+else-windows-i w ↦ λ lt e. w.if-windows-i.false e
      | else-i-windows-via-else-i-windows w ↦ λ lt e. absurd
          (omega (arith, w.if-i-windows.false, lt))
    ])

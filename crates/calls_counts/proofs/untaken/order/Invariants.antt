use Rattle.std.proofs.Common.{◌≡◌, ◌++◌, drop}
use Rattle.calls_counts.specs.kept.Orders.{order_from}
use Rattle.calls_counts.proofs.untaken.order.Given as goal

abbrev pub invariant-loop-k : goal.invariant-loop-k
invariant-loop-k l = l.out ++ order_from l.k (drop l.k l.slots) l.reads
    ≡ order_from 0 l.slots l.reads

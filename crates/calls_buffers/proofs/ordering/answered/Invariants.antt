use Rattle.std.proofs.Common.{◌≡◌, take}
use Rattle.calls_buffers.specs.kept.Orders.{answered_from}
use Rattle.calls_buffers.proofs.ordering.answered.Given as goal

abbrev pub invariant-loop-i : goal.invariant-loop-i
invariant-loop-i l = l.list.items
    ≡ answered_from l.end l.answers 0 (take l.i l.pending)

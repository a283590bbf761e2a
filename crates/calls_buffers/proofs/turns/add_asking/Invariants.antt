use Rattle.std.proofs.Common.{◌≡◌, ◌++◌, drop}
use Rattle.calls_buffers.specs.Turns.{asking}
use Rattle.calls_buffers.proofs.turns.add_asking.Given as goal

abbrev pub invariant-loop-i : goal.invariant-loop-i
invariant-loop-i l = l.list.items ++ asking l.end l.i (drop l.i l.pending)
    ≡ l.fn.list.items ++ asking l.end 0 l.pending

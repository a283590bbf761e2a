use Rattle.std.proofs.Common.{◌≡◌, ◌++◌, drop}
use Rattle.calls_buffers.specs.Accesses.{asked}
use Rattle.calls_buffers.proofs.accesses.add_pending.Given as goal

abbrev pub invariant-loop-i : goal.invariant-loop-i
invariant-loop-i l = l.list.items ++ asked l.end l.i (drop l.i l.pending)
    ≡ l.fn.list.items ++ asked l.end 0 l.pending

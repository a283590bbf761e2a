use Rattle.std.proofs.Common.{◌≡◌, ◌++◌, drop}
use Rattle.calls_buffers.specs.Turns.{askers_of}
use Rattle.calls_buffers.proofs.turns.add_askers.Given as goal

abbrev pub invariant-loop-i : goal.invariant-loop-i
invariant-loop-i l = l.takers.items ++ askers_of l.end l.i (drop l.i l.pending)
    ≡ l.fn.takers.items ++ askers_of l.end 0 l.pending

use Rattle.std.proofs.Common.{◌≡◌, take}
use Rattle.calls_buffers.proofs.recorded.reversed.Given as goal

abbrev pub invariant-loop-i : goal.invariant-loop-i
invariant-loop-i l = l.calls.items ≡ take l.i l.list

use Rattle.std.proofs.Common.{◌≡◌, ◌++◌, drop}
use Rattle.calls_buffers.specs.Turns.{putting_turns}
use Rattle.calls_buffers.proofs.turns.putting_turns.Given as goal

abbrev pub invariant-loop-i : goal.invariant-loop-i
invariant-loop-i l = l.turns.items ++ putting_turns l.room l.end l.all l.i (drop l.i l.takes)
    ≡ putting_turns l.room l.end l.all 0 l.takes

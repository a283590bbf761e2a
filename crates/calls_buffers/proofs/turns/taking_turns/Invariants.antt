use Rattle.std.proofs.Common.{◌≡◌, ◌++◌, drop}
use Rattle.calls_buffers.specs.Turns.{taking_turns}
use Rattle.calls_buffers.proofs.turns.taking_turns.Given as goal

abbrev pub invariant-loop-i : goal.invariant-loop-i
invariant-loop-i l = l.turns.items ++ taking_turns l.room l.end (drop l.i l.puts)
    ≡ taking_turns l.room l.end l.puts

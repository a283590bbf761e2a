use Rattle.std.proofs.Common.{◌≡◌, ◌-◌, ◌++◌}
use Rattle.calls_buffers.specs.Turns.{spare_turns}
use Rattle.calls_buffers.proofs.turns.add_spare_turns.Given as goal

abbrev pub invariant-loop-i : goal.invariant-loop-i
invariant-loop-i l = l.turns.items ++ spare_turns l.room l.end l.all l.i (l.puts - l.i)
    ≡ l.fn.turns.items ++ spare_turns l.room l.end l.all l.from (l.puts - l.from)

use Rattle.std.proofs.Common.{◌≡◌, ◌++◌, drop}
use Rattle.calls_buffers.specs.kept.Takings.{taken_windows}
use Rattle.calls_buffers.proofs.turns.taken_windows.Given as goal

abbrev pub invariant-loop-k : goal.invariant-loop-k
invariant-loop-k l = l.windows.items
    ++ taken_windows l.end l.takes (drop l.k l.puts) (drop l.k l.order)
    ≡ taken_windows l.end l.takes l.puts l.order

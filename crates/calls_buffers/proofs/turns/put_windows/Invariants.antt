use Rattle.std.proofs.Common.{◌≡◌, ◌++◌, drop}
use Rattle.calls_buffers.specs.kept.Puttings.{put_windows}
use Rattle.calls_buffers.proofs.turns.put_windows.Given as goal

abbrev pub invariant-loop-k : goal.invariant-loop-k
invariant-loop-k l = l.windows.items
    ++ put_windows l.end l.puts l.takes l.k (drop l.k l.order)
    ≡ put_windows l.end l.puts l.takes 0 l.order

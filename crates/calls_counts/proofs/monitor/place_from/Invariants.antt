use Rattle.calls_counts.specs.Watching.{AllBelow}
use Rattle.calls_counts.proofs.monitor.place_from.Given as goal

abbrev pub invariant-loop-k : goal.invariant-loop-k
invariant-loop-k l = AllBelow l.free l.noted l.k

use Rattle.calls_core.specs.Beginnings.{past_at}
use Rattle.calls_monitor.specs.kept.Watching.{Watches}
use Rattle.calls_monitor.proofs.whole.watch.Given as goal

abbrev pub invariant-loop-index : goal.invariant-loop-index
invariant-loop-index l = Watches l.kinds l.spsc (past_at l.index l.events) l.monitor

use Rattle.std.proofs.Common.{◌≡◌, ◌++◌, take}
use Rattle.calls_core.specs.Linearizations.{answered_calls}
use Rattle.calls_distinct.specs.kept.Zones.{put_answer}
use Rattle.calls_distinct.proofs.history.add_puts.Given as goal

abbrev pub invariant-loop-o : goal.invariant-loop-o
invariant-loop-o l = l.calls.items ≡ l.fn.calls.items ++ answered_calls l.end put_answer
    (take l.o-index l.pending)

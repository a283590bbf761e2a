use Rattle.std.proofs.Common.{◌≡◌, reverse, take}
use Rattle.calls_core.specs.Histories.{pending_calls}
use Rattle.calls_report.proofs.counting.pending_after.Given as goal

abbrev pub invariant-loop-i : goal.invariant-loop-i
invariant-loop-i l = l.pending.items ≡ pending_calls (reverse (take l.i l.events))

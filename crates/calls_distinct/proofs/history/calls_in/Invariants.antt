use Rattle.std.proofs.Common.{◌≡◌, reverse}
use Rattle.calls_core.specs.Histories.{completed_calls, pending_calls}
use Rattle.calls_core.specs.Beginnings.{past_at}
use Rattle.calls_distinct.proofs.history.calls_in.Given as goal

abbrev pub invariant-loop-i : goal.invariant-loop-i
invariant-loop-i l = record {
  calls : l.calls.items ≡ reverse (completed_calls (past_at l.i l.events));
  pending : l.pending.items ≡ pending_calls (past_at l.i l.events);
}

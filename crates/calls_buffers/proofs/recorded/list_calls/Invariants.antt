use Rattle.std.proofs.Common.{◌≡◌, reverse}
use Rattle.calls_core.specs.Histories.{completed_calls, pending_calls}
use Rattle.calls_core.specs.Beginnings.{past_at}
use Rattle.calls_buffers.proofs.recorded.list_calls.Given as goal

abbrev pub invariant-loop-i : goal.invariant-loop-i
invariant-loop-i l = record {
  done : l.done ≡ reverse (completed_calls (past_at l.i l.events));
  pending : l.pending.items ≡ pending_calls (past_at l.i l.events);
}

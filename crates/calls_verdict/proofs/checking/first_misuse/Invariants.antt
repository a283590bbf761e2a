use Rattle.std.proofs.Common.{◌≡◌}
use Rattle.calls_core.specs.Histories.{IsHistory, pending_calls}
use Rattle.calls_core.specs.Beginnings.{past_at}
use Rattle.calls_verdict.proofs.checking.first_misuse.Given as goal

abbrev pub invariant-loop-i : goal.invariant-loop-i
invariant-loop-i l = record {
  history : IsHistory l.kinds (past_at l.i l.events);
  pending : l.pending.items ≡ pending_calls (past_at l.i l.events);
}

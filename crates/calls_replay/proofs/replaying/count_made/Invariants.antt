use Rattle.std.proofs.Common.{◌≡◌, ◌≤◌, take, count_by}
use Rattle.calls_core.specs.declared.history.Placed.{Placed}
use Rattle.calls_replay.specs.Made.{is_made}
use Rattle.calls_replay.proofs.replaying.count_made.Given as goal

abbrev pub invariant-loop-i : goal.invariant-loop-i
invariant-loop-i l = record {
  count : l.count ≡ count_by (λ (p : Placed). is_made l.limit p.call) (take l.i l.order);
  few : l.count ≤ l.i;
}

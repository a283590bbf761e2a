use Rattle.std.proofs.Common.{◌≡◌, ◌≤◌, take, count_by}
use Rattle.calls_core.specs.declared.history.Event.{Event}
use Rattle.calls_replay.specs.Replays.{is_invocation}
use Rattle.calls_replay.proofs.replaying.count_invoked.Given as goal

abbrev pub invariant-loop-i : goal.invariant-loop-i
invariant-loop-i l = record {
  count : l.count ≡ count_by (λ (e : Event). is_invocation e.action) (take l.i l.events);
  few : l.count ≤ l.i;
}

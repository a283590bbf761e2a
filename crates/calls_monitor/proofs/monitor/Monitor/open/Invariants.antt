use Rattle.std.proofs.Common.{◌≡◌, ℕ, ◌<◌, length, slice_get, Some}
use Rattle.calls_core.specs.declared.history.Kind.{Kind}
use Rattle.calls_monitor.proofs.Wholes.{IsOpenedAt}
use Rattle.calls_monitor.proofs.monitor.Monitor.open.Given as goal

abbrev pub invariant-loop-kind : goal.invariant-loop-kind
invariant-loop-kind l = record {
  count : length l.objects.items ≡ l.kind-index;
  each : (k : ℕ) (kind : Kind) → k < l.kind-index → slice_get l.kinds k ≡ Some kind
      → IsOpenedAt l.spsc l.objects.items k kind;
}

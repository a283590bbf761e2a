use Rattle.std.proofs.Common.{◌≡◌, ℕ, ◌<◌, length, slice_get, Some}
use Rattle.ec_runner.specs.BoardModel.{BoardModel}
use Rattle.ec_runner.specs.kept.Holds.{is_asleep, is_woken}
use Rattle.ec_runner.proofs.holding.workers_to_wake.Given as goal

abbrev pub invariant-loop-v : goal.invariant-loop-v
invariant-loop-v l = record {
  long : length l.table ≡ 16;
  each : (b : BoardModel) → ((v : ℕ) → v < 16 → slice_get l.before v ≡ Some (is_asleep b v))
      → (k : ℕ) → k < l.v → slice_get l.table k ≡ Some (is_woken b l.worker l.board k);
}

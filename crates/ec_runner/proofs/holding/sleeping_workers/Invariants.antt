use Rattle.std.proofs.Common.{◌≡◌, ℕ, ◌<◌, length, slice_get, Some}
use Rattle.ec_runner.specs.kept.Holds.{is_asleep}
use Rattle.ec_runner.proofs.holding.sleeping_workers.Given as goal

abbrev pub invariant-loop-v : goal.invariant-loop-v
invariant-loop-v l = record {
  long : length l.table ≡ 16;
  each : (k : ℕ) → k < l.v → slice_get l.table k ≡ Some (is_asleep l.board k);
}

use Rattle.std.proofs.Common.{◌≡◌, ◌==◌, ◌&&◌, not, ℕ, ◌<◌, length, slice_get, Some}
use Rattle.ec_runner.specs.WorkerStates.{is_waiting, worker_state}
use Rattle.ec_runner.proofs.holding.waiting_workers.Given as goal

abbrev pub invariant-loop-v : goal.invariant-loop-v
invariant-loop-v l = record {
  long : length l.table ≡ 16;
  each : (k : ℕ) → k < l.v → slice_get l.table k ≡ Some (not (k == l.worker) && is_waiting (worker_state l.board.states k));
}

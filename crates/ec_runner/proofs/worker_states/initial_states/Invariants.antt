use Rattle.std.proofs.Common.{◌≡◌, ℕ, ◌<◌, length, slice_get, Some, cond, nat_lt}
use Rattle.ec_runner.specs.declared.worker_state.WorkerState.TheVariants.{Gone, Running}
use Rattle.ec_runner.proofs.worker_states.initial_states.Given as goal

abbrev pub invariant-loop-w : goal.invariant-loop-w
invariant-loop-w l = record {
  long : length l.states ≡ 16;
  each : (k : ℕ) → k < 16 → slice_get l.states k ≡ Some (cond (nat_lt k l.w) Running Gone);
}

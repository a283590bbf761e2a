use Rattle.std.proofs.Common.{ℕ, ◌<◌, slice_index_or}
use Rattle.ec_core.specs.Silence.{IsSilent}
use Rattle.row_tests.proofs.kernel.runs.are_silent.Given as goal

-- each worker so far is read-only
abbrev pub invariant-loop-worker : goal.invariant-loop-worker
invariant-loop-worker l = (k : ℕ) (d : ℕ) → k < l.worker-index → IsSilent l.run.setup l.run.entries (slice_index_or l.workers k d)

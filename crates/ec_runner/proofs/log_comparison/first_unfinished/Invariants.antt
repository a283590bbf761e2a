use Rattle.std.proofs.Common.{◌≡◌, ◌<◌, ℕ, length, Some, slice_get, slice_index}
use Rattle.ec_runner.specs.declared.summary.Summary.{Summary}
use Rattle.ec_runner.proofs.log_comparison.first_unfinished.Given as goal

abbrev pub invariant-loop-w : goal.invariant-loop-w
invariant-loop-w l = (w : ℕ) (summary : Summary) → w < l.w → slice_get l.summaries w ≡ Some summary → slice_index l.cursors w ≡ length summary.log.items

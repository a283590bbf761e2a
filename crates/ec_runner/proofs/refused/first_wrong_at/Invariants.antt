use Rattle.std.proofs.Common.{◌≡◌, ◌<◌, ℕ, Some, slice_get}
use Rattle.ec_runner.specs.declared.summary.Summary.{Summary}
use Rattle.ec_runner.specs.Fits.{IsRightAt}
use Rattle.ec_runner.proofs.refused.first_wrong_at.Given as goal

abbrev pub invariant-loop-w : goal.invariant-loop-w
invariant-loop-w l = (w : ℕ) (summary : Summary) → w < l.w → slice_get l.summaries w ≡ Some summary → IsRightAt summary.outcome summary.asked l.run l.moment w

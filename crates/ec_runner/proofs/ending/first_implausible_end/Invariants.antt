use Rattle.std.proofs.Common.{◌≡◌, ◌<◌, ℕ, Some, slice_get}
use Rattle.ec_runner.specs.declared.summary.Summary.{Summary}
use Rattle.ec_runner.specs.Fits.{MayBeBorneOut}
use Rattle.ec_runner.proofs.ending.first_implausible_end.Given as goal

abbrev pub invariant-loop-w : goal.invariant-loop-w
invariant-loop-w l = (w : ℕ) (summary : Summary) → w < l.w → slice_get l.summaries w ≡ Some summary → MayBeBorneOut summary.outcome l.run w summary.asked

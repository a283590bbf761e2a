use Rattle.std.proofs.Common.{◌≡◌, ◌<◌, ℕ, Some, slice_get, take}
use Rattle.ec_core.specs.Standing.{StandsFor}
use Rattle.ec_runner.specs.declared.summary.Summary.{Summary}
use Rattle.ec_runner.specs.Fits.{IsRightAt}
use Rattle.ec_runner.proofs.refused.first_wrong.Given as goal

abbrev pub invariant-loop-k : goal.invariant-loop-k
invariant-loop-k l = record {
  represents : StandsFor l.world (take l.k l.run.entries);
  setup : l.world.setup ≡ l.run.setup;
  right : (k w : ℕ) (summary : Summary) → k < l.k → slice_get l.summaries w ≡ Some summary → IsRightAt summary.outcome summary.asked l.run k w;
}

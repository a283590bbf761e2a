use Rattle.std.proofs.Common.{◌≡◌, ◌++◌}
use Rattle.ec_runner.specs.kept.LogComparison.{AreComparedSoFar}
use Rattle.ec_runner.proofs.log_comparison.first_log_mismatch.Given as goal

abbrev pub invariant-loop-entry : goal.invariant-loop-entry
invariant-loop-entry l = record {
  order : l.yielded ++ l.entry-iterator ≡ l.run.entries;
  walked : AreComparedSoFar l.summaries l.cursors l.yielded;
}

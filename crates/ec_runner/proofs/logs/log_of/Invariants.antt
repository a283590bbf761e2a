use Rattle.std.proofs.Common.{◌≡◌, ◌++◌}
use Rattle.ec_machine.specs.Steps.{own}
use Rattle.ec_runner.proofs.logs.log_of.Given as goal

abbrev pub invariant-loop-entry : goal.invariant-loop-entry
invariant-loop-entry l = record {
  order : l.yielded ++ l.entry-iterator ≡ l.run.entries;
  log : l.log.items ≡ own l.worker l.yielded;
}

use Rattle.std.proofs.Common.{◌≡◌, ◌++◌, false, reverse}
use Rattle.ec_machine.specs.Follows.{program_at}
use Rattle.ec_machine.specs.Standing.{StandsFor, is_refused}
use Rattle.ec_machine.specs.Steps.{own}
use Rattle.ec_machine.proofs.follow.follows_one.Given as goal

abbrev pub invariant-loop-entry : goal.invariant-loop-entry
invariant-loop-entry l = record {
  order : l.yielded ++ l.entry-iterator ≡ l.run.entries;
  represents : StandsFor (program_at l.programs l.worker) l.machine (own l.worker (reverse l.yielded));
  unset : is_refused l.machine ≡ false;
}

use Rattle.std.proofs.Common.{◌≡◌, [], length}
use Rattle.ec_runner.specs.kept.Machines.{AreMachines}
use Rattle.ec_runner.proofs.schedule.start_machines.Given as goal

abbrev pub invariant-loop-program : goal.invariant-loop-program
invariant-loop-program l = record {
  each : length l.machines.items ≡ l.program-index;
  start : AreMachines l.programs [] l.machines.items;
}

use Rattle.std.proofs.Common.{◌≡◌, map, take}
use Rattle.ec_machine.specs.Standing.{machine_outcome}
use Rattle.ec_runner.proofs.schedule.outcomes_of.Given as goal

abbrev pub invariant-loop-machine : goal.invariant-loop-machine
invariant-loop-machine l = l.outcomes.items ≡ map machine_outcome (take l.machine-index l.machines)

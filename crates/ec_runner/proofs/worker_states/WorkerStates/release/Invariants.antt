use Rattle.std.proofs.Common.{◌≡◌, map}
use Rattle.ec_runner.specs.WorkerStates.{state_at_total}
use Rattle.ec_runner.specs.kept.WaitQueues.{number_on}
use Rattle.ec_runner.proofs.worker_states.WorkerStates.release.Given as goal

abbrev pub invariant-loop-event : goal.invariant-loop-event
invariant-loop-event l = map (state_at_total l.event l.total) l.self ≡ map (state_at_total l.event l.total) l.initial.self

abbrev pub decreases-loop-event : goal.decreases-loop-event
decreases-loop-event l = number_on l.event l.self

use Rattle.std.proofs.Common.{◌≡◌, ◌≤◌, true, length}
use Rattle.ec_machine.specs.Outcomes.{is_running}
use Rattle.ec_machine.specs.Standing.{machine_outcome}
use Rattle.ec_runner.specs.Works.{Works, HasHad, IsAsked}
use Rattle.ec_runner.proofs.threads.work_through.Given as goal

abbrev pub invariant-loop : goal.invariant-loop
invariant-loop g l = record {
  steps : l.steps ≤ l.counter;
  made : is_running (machine_outcome l.machine) ≡ true → l.steps ≡ length l.log.items;
  end : l.end ≡ l.shared.turns;
  works : Works l.program l.machine l.log.items;
  had : HasHad l.counter l.machine l.log.items;
  asked : IsAsked (machine_outcome l.machine) l.program l.log.items l.asked;
}

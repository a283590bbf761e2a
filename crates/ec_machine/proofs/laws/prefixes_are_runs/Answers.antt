use Rattle.ec_machine.specs.Runs.{program_call}
use Rattle.ec_machine.proofs.shared.OwnSteps.{run_before}
use Rattle.ec_machine.proofs.laws.prefixes_are_runs.Goals as goal

pub returns : goal.returns
returns c = λ cs later past run. run_before (program_call cs) later past run

use Rattle.ec_runner.proofs.shared.InOrder.{one_run}
use Rattle.ec_runner.proofs.laws.schedules_have_one_run.Goals as goal

pub returns : goal.returns
returns c = one_run

use Rattle.ec_runner.proofs.shared.Histories.{one_history}
use Rattle.ec_runner.proofs.laws.schedules_have_one_history.Goals as goal

pub returns : goal.returns
returns c = one_history

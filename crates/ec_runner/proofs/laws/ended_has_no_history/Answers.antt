use Rattle.ec_runner.proofs.shared.Histories.{no_history}
use Rattle.ec_runner.proofs.laws.ended_has_no_history.Goals as goal

pub returns : goal.returns
returns c = no_history

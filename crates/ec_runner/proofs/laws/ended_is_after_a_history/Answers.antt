use Rattle.ec_runner.proofs.shared.Histories.{ended_after}
use Rattle.ec_runner.proofs.laws.ended_is_after_a_history.Goals as goal

pub returns : goal.returns
returns c = ended_after

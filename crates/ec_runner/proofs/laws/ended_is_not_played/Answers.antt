use Rattle.ec_runner.proofs.shared.InOrder.{ended_not_played}
use Rattle.ec_runner.proofs.laws.ended_is_not_played.Goals as goal

pub returns : goal.returns
returns c = ended_not_played

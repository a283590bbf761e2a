use Rattle.ec_core.proofs.shared.CallRounds.{rounds_of_calls}
use Rattle.ec_core.proofs.laws.rounds_of_calls_lie_between.Goals as goal

pub returns : goal.returns
returns c = rounds_of_calls

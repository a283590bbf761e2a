use Rattle.ec_runner.proofs.shared.Histories.{of_turns}
use Rattle.ec_runner.proofs.laws.histories_are_of_turns.Goals as goal

pub returns : goal.returns
returns c = of_turns

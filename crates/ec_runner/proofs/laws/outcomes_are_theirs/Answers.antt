use Rattle.ec_runner.proofs.Interleaving.{outcomes_theirs}
use Rattle.ec_runner.proofs.laws.outcomes_are_theirs.Goals as goal

pub returns : goal.returns
returns c = outcomes_theirs

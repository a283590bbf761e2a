use Rattle.ec_database.proofs.shared.OneList.{determined}
use Rattle.ec_database.proofs.laws.accepted_tries_are_determined.Goals as goal

pub returns : goal.returns
returns c = determined

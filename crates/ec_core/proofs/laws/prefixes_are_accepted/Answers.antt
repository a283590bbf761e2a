use Rattle.ec_core.proofs.shared.Moments.{beginnings}
use Rattle.ec_core.proofs.laws.prefixes_are_accepted.Goals as goal

pub returns : goal.returns
returns c = beginnings

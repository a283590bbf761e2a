use Rattle.ec_core.proofs.shared.Moments.{accepted_means}
use Rattle.ec_core.proofs.laws.accepted_means_answered.Goals as goal

pub returns : goal.returns
returns c = accepted_means

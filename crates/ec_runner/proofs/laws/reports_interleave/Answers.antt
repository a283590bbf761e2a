use Rattle.ec_core.proofs.shared.Moments.{accepted_means}
use Rattle.ec_runner.proofs.Interleaving.{interleave}
use Rattle.ec_runner.proofs.laws.reports_interleave.Goals as goal

pub returns : goal.returns
returns c = interleave accepted_means

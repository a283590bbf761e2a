use Rattle.evc_scripts.proofs.shared.ReadAgain.{simulated_again}
use Rattle.evc_scripts.proofs.laws.simulated_is_read_again.Goals as goal

pub returns : goal.returns
returns c = simulated_again

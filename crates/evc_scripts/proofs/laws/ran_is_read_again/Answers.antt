use Rattle.evc_scripts.proofs.shared.ReadAgain.{ran_again}
use Rattle.evc_scripts.proofs.laws.ran_is_read_again.Goals as goal

pub returns : goal.returns
returns c = ran_again

use Rattle.ec_core.proofs.Receivers.{last_receivers}
use Rattle.ec_core.proofs.laws.signallers_are_the_last_receivers.Goals as goal

pub returns : goal.returns
returns c = last_receivers

use Rattle.ec_core.proofs.Receivers.{hands_change}
use Rattle.ec_core.proofs.laws.hands_change_no_number.Goals as goal

pub returns : goal.returns
returns c = hands_change

use Rattle.ec_order.proofs.Natural.{every_history}
use Rattle.ec_order.proofs.laws.every_accepted_history_has_an_order.Goals as goal

pub returns : goal.returns
returns c = every_history

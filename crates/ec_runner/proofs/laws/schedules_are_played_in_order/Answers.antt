use Rattle.ec_runner.proofs.shared.InOrder.{played_in_order}
use Rattle.ec_runner.proofs.laws.schedules_are_played_in_order.Goals as goal

pub returns : goal.returns
returns c = played_in_order

use Rattle.ec_buffer.proofs.shared.OneList.{determined}
use Rattle.ec_buffer.proofs.laws.deliveries_are_determined.Goals as goal

pub returns : goal.returns
returns c = determined

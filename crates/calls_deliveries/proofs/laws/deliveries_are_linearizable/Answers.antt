use Rattle.calls_deliveries.proofs.Delivered.{deliveries_linearizable}
use Rattle.calls_deliveries.proofs.laws.deliveries_are_linearizable.Goals as goal

pub returns : goal.returns
returns c = deliveries_linearizable

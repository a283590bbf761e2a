use Rattle.calls_local.proofs.Wholes.{linearizable_by_orders}
use Rattle.calls_local.proofs.laws.linearizable_by_orders.Goals as goal

pub returns : goal.returns
returns c = linearizable_by_orders

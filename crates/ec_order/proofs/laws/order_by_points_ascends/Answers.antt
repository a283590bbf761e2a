use Rattle.ec_order.proofs.Ascending.{order_ascends}
use Rattle.ec_order.proofs.laws.order_by_points_ascends.Goals as goal

pub returns : goal.returns
returns c = order_ascends

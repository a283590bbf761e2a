use Rattle.ec_order.proofs.Natural.{order_by_points}
use Rattle.ec_order.proofs.laws.order_by_points_is_good.Goals as goal

pub returns : goal.returns
returns c = order_by_points

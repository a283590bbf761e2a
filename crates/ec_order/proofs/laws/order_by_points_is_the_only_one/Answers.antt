use Rattle.ec_order.proofs.Ascending.{only_order}
use Rattle.ec_order.proofs.laws.order_by_points_is_the_only_one.Goals as goal

pub returns : goal.returns
returns c = only_order

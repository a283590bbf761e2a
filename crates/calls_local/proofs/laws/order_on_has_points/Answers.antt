use Rattle.calls_local.proofs.Points.{order_on_has_points}
use Rattle.calls_local.proofs.laws.order_on_has_points.Goals as goal

pub returns : goal.returns
returns c = order_on_has_points

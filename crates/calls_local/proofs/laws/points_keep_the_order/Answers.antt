use Rattle.calls_local.proofs.Points.{points_keep_the_order}
use Rattle.calls_local.proofs.laws.points_keep_the_order.Goals as goal

pub returns : goal.returns
returns c = points_keep_the_order

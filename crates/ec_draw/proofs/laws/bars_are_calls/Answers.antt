use Rattle.ec_draw.proofs.Shown.{bars_are}
use Rattle.ec_draw.proofs.laws.bars_are_calls.Goals as goal

pub returns : goal.returns
returns c = bars_are c.order_by_points_ascends.ensures

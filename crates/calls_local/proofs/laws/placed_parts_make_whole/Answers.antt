use Rattle.calls_local.proofs.Points.{placed_parts_make_whole}
use Rattle.calls_local.proofs.laws.placed_parts_make_whole.Goals as goal

pub returns : goal.returns
returns c = placed_parts_make_whole

use Rattle.calls_local.proofs.Points.{parts_make_whole}
use Rattle.calls_local.proofs.laws.parts_make_whole.Goals as goal

pub returns : goal.returns
returns c = parts_make_whole

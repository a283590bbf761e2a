use Rattle.calls_local.proofs.Points.{parts_are_linearized}
use Rattle.calls_local.proofs.laws.parts_are_linearized.Goals as goal

pub returns : goal.returns
returns c = parts_are_linearized

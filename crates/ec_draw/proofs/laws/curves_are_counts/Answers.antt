use Rattle.ec_draw.proofs.Shown.{curves_are}
use Rattle.ec_draw.proofs.laws.curves_are_counts.Goals as goal

pub returns : goal.returns
returns c = curves_are

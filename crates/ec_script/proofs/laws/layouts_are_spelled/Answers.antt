use Rattle.ec_script.proofs.OrderLines.{layout_spelled}
use Rattle.ec_script.proofs.laws.layouts_are_spelled.Goals as goal

pub returns : goal.returns
returns c = layout_spelled

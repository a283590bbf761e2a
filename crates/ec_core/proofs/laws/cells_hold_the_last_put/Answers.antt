use Rattle.ec_core.proofs.shared.Counting.{cells_hold}
use Rattle.ec_core.proofs.laws.cells_hold_the_last_put.Goals as goal

pub returns : goal.returns
returns c = cells_hold

use Rattle.calls_cells.proofs.Staying.{stays}
use Rattle.calls_cells.proofs.laws.it_stays_outside.Goals as goal

pub returns : goal.returns
returns c = stays

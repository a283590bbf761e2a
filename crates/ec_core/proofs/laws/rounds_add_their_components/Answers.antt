use Rattle.ec_core.proofs.CallsCut.{rounds_add}
use Rattle.ec_core.proofs.laws.rounds_add_their_components.Goals as goal

pub returns : goal.returns
returns c = rounds_add

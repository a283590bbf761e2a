use Rattle.ec_database.proofs.Asking.{are_tries}
use Rattle.ec_database.proofs.laws.snapshots_are_tries.Goals as goal

pub returns : goal.returns
returns c = are_tries

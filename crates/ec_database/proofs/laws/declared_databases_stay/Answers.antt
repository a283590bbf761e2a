use Rattle.ec_database.proofs.shared.Staying.{databases_stay}
use Rattle.ec_database.proofs.laws.declared_databases_stay.Goals as goal

pub returns : goal.returns
returns c = databases_stay

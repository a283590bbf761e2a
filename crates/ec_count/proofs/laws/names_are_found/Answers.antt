use Rattle.ec_count.proofs.shared.Named.{names_found}
use Rattle.ec_count.proofs.laws.names_are_found.Goals as goal

pub returns : goal.returns
returns c = names_found

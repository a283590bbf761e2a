use Rattle.ec_count.proofs.Held.{rights_declared}
use Rattle.ec_count.proofs.laws.rights_are_declared.Goals as goal

pub returns : goal.returns
returns c = rights_declared

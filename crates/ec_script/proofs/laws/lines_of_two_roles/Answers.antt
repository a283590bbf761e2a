use Rattle.ec_script.proofs.PairLines.{lines_of_roles}
use Rattle.ec_script.proofs.laws.lines_of_two_roles.Goals as goal

pub returns : goal.returns
returns c = lines_of_roles

use Rattle.ec_script.proofs.TwoRoles.{roles_told}
use Rattle.ec_script.proofs.laws.two_roles_are_reported.Goals as goal

pub returns : goal.returns
returns c = roles_told

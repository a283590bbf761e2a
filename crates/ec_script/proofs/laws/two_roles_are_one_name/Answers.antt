use Rattle.ec_script.proofs.TwoRoles.{two_roles}
use Rattle.ec_script.proofs.laws.two_roles_are_one_name.Goals as goal

pub returns : goal.returns
returns c = two_roles

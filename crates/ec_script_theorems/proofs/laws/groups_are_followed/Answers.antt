use Rattle.ec_script_theorems.proofs.AllGroups.{groups_follow}
use Rattle.ec_script_theorems.proofs.laws.groups_are_followed.Goals as goal

pub returns : goal.returns
returns c = groups_follow

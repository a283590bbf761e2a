use Rattle.ec_script_theorems.proofs.Databases.{databases_follow}
use Rattle.ec_script_theorems.proofs.laws.databases_are_followed.Goals as goal

pub returns : goal.returns
returns c = databases_follow

use Rattle.ec_script_theorems.proofs.Passing.{pass}
use Rattle.ec_script_theorems.proofs.laws.followed_traces_pass.Goals as goal

pub returns : goal.returns
returns c = pass

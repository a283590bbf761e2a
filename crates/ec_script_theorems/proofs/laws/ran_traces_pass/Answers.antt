use Rattle.ec_script_theorems.proofs.Passing.{ran_pass}
use Rattle.ec_script_theorems.proofs.laws.ran_traces_pass.Goals as goal

pub returns : goal.returns
returns c = ran_pass

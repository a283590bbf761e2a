use Rattle.ec_script_theorems.proofs.Passing.{simulated_pass}
use Rattle.ec_script_theorems.proofs.laws.simulated_traces_pass.Goals as goal

pub returns : goal.returns
returns c = simulated_pass

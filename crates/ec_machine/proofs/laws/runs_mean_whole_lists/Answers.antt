use Rattle.ec_machine.proofs.Joined.{runs_mean}
use Rattle.ec_machine.proofs.laws.runs_mean_whole_lists.Goals as goal

pub returns : goal.returns
returns c = runs_mean

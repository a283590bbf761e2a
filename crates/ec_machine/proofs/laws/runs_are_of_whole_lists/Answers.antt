use Rattle.ec_machine.proofs.shared.WholeLists.{runs_of_lists}
use Rattle.ec_machine.proofs.laws.runs_are_of_whole_lists.Goals as goal

pub returns : goal.returns
returns c = runs_of_lists

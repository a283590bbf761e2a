use Rattle.ec_machine.proofs.shared.OwnCalls.{own_cut}
use Rattle.ec_machine.proofs.laws.own_steps_are_cut.Goals as goal

pub returns : goal.returns
returns c = own_cut

use Rattle.ec_script.proofs.shared.Texts.{fault_is_first}
use Rattle.ec_script.proofs.laws.fault_is_the_first.Goals as goal

pub returns : goal.returns
returns c = fault_is_first

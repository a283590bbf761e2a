use Rattle.ec_count.proofs.shared.Declared.{one_signaller}
use Rattle.ec_count.proofs.laws.each_component_has_one_signaller.Goals as goal

pub returns : goal.returns
returns c = one_signaller

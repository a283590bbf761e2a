use Rattle.ec_script.proofs.shared.Keeping.{plans_are_confined}
use Rattle.ec_script.proofs.laws.plans_are_confined.Goals as goal

pub returns : goal.returns
returns c = plans_are_confined

use Rattle.ec_core.proofs.Silences.{others_stand}
use Rattle.ec_core.proofs.laws.others_stand.Goals as goal

pub returns : goal.returns
returns c = others_stand

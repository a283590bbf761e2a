use Rattle.ec_script.proofs.Endings.{unfinished_told}
use Rattle.ec_script.proofs.laws.unfinished_is_reported.Goals as goal

pub returns : goal.returns
returns c = unfinished_told

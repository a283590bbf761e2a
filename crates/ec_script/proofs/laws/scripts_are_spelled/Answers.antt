use Rattle.ec_script.proofs.Spellings.{scripts_spelled}
use Rattle.ec_script.proofs.laws.scripts_are_spelled.Goals as goal

pub returns : goal.returns
returns c = scripts_spelled

use Rattle.ec_script.proofs.shared.Texts.{script_is_read}
use Rattle.ec_script.proofs.laws.script_is_read.Goals as goal

pub returns : goal.returns
returns c = script_is_read

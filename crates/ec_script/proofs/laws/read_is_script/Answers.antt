use Rattle.ec_script.proofs.shared.Texts.{read_is_script}
use Rattle.ec_script.proofs.laws.read_is_script.Goals as goal

pub returns : goal.returns
returns c = read_is_script

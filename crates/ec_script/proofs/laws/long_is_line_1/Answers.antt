use Rattle.ec_script.proofs.shared.Texts.{long_is_line_1}
use Rattle.ec_script.proofs.laws.long_is_line_1.Goals as goal

pub returns : goal.returns
returns c = long_is_line_1

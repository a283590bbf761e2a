use Rattle.ec_script.proofs.OrderLines.{line_spelled}
use Rattle.ec_script.proofs.laws.lines_are_spelled.Goals as goal

pub returns : goal.returns
returns c = line_spelled

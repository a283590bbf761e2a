use Rattle.ec_script.proofs.shared.WrittenOut.{confined_lines}
use Rattle.ec_script.proofs.laws.confined_lines_are_confined_commands.Goals as goal

pub returns : goal.returns
returns c = confined_lines

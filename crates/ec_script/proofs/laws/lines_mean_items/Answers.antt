use Rattle.ec_script.proofs.Sayings.{lines_say}
use Rattle.ec_script.proofs.laws.lines_mean_items.Goals as goal

pub returns : goal.returns
returns c = lines_say

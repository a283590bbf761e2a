use Rattle.ec_script.proofs.Counting.{blocks_counted}
use Rattle.ec_script.proofs.laws.blocks_are_counted.Goals as goal

pub returns : goal.returns
returns c = blocks_counted

use Rattle.ec_script_theorems.proofs.Both.{both_follows}
use Rattle.ec_script_theorems.proofs.laws.both_is_followed.Goals as goal

pub returns : goal.returns
returns c = both_follows

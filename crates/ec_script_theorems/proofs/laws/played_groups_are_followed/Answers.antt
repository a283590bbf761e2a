use Rattle.ec_script_theorems.proofs.Played.{played_follow}
use Rattle.ec_script_theorems.proofs.laws.played_groups_are_followed.Goals as goal

pub returns : goal.returns
returns c = played_follow

use Rattle.ec_script_theorems.proofs.Reported.{reported_follow}
use Rattle.ec_script_theorems.proofs.laws.reported_groups_are_followed.Goals as goal

pub returns : goal.returns
returns c = reported_follow

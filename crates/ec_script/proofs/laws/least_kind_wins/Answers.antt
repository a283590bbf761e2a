use Rattle.ec_script.proofs.ReportedKinds.{least_is_told}
use Rattle.ec_script.proofs.laws.least_kind_wins.Goals as goal

pub returns : goal.returns
returns c = least_is_told

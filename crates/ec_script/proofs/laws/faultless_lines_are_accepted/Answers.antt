use Rattle.ec_script.proofs.ReportedKinds.{faultless_taken}
use Rattle.ec_script.proofs.laws.faultless_lines_are_accepted.Goals as goal

pub returns : goal.returns
returns c = faultless_taken

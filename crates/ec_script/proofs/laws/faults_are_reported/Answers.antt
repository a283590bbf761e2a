use Rattle.ec_script.proofs.ReportedFaults.{faults_are_reported}
use Rattle.ec_script.proofs.laws.faults_are_reported.Goals as goal

pub returns : goal.returns
returns c = faults_are_reported

use Rattle.evc_scripts.proofs.SameReports.{lines_alike}
use Rattle.evc_scripts.proofs.laws.lines_report_alike.Goals as goal

pub returns : goal.returns
returns c = lines_alike

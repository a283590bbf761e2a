use Rattle.evc_scripts.proofs.SameReports.{plans_alike}
use Rattle.evc_scripts.proofs.laws.plans_report_alike.Goals as goal

pub returns : goal.returns
returns c = plans_alike

use Rattle.evc_scripts.proofs.SameReports.{one_text}
use Rattle.evc_scripts.proofs.laws.reports_have_one_text.Goals as goal

pub returns : goal.returns
returns c = one_text

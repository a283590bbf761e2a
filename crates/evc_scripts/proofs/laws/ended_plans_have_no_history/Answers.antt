use Rattle.evc_scripts.proofs.OneRun.{never_made}
use Rattle.evc_scripts.proofs.laws.ended_plans_have_no_history.Goals as goal

pub returns : goal.returns
returns c = never_made

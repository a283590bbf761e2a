use Rattle.evc_scripts.proofs.OneRun.{plan_once}
use Rattle.evc_scripts.proofs.laws.plans_have_one_run.Goals as goal

pub returns : goal.returns
returns c = plan_once

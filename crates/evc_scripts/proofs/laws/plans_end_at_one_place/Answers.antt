use Rattle.evc_scripts.proofs.OneRun.{one_place}
use Rattle.evc_scripts.proofs.laws.plans_end_at_one_place.Goals as goal

pub returns : goal.returns
returns c = one_place

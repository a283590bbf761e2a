use Rattle.evc_scripts.proofs.OneRun.{one_way}
use Rattle.evc_scripts.proofs.laws.sims_end_one_way.Goals as goal

pub returns : goal.returns
returns c = one_way

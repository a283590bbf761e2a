use Rattle.evc_scripts.proofs.OneRun.{one_text}
use Rattle.evc_scripts.proofs.laws.sims_have_one_text.Goals as goal

pub returns : goal.returns
returns c = one_text

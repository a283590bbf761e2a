use Rattle.evc_scripts.proofs.OneRun.{never_played}
use Rattle.evc_scripts.proofs.laws.ended_plans_are_not_played.Goals as goal

pub returns : goal.returns
returns c = never_played

use Rattle.evc_scripts.proofs.OneRun.{play_alike}
use Rattle.evc_scripts.proofs.laws.lines_play_alike.Goals as goal

pub returns : goal.returns
returns c = play_alike

use Rattle.evc_scripts.proofs.OneNote.{alike}
use Rattle.evc_scripts.proofs.laws.refusals_are_alike.Goals as goal

pub returns : goal.returns
returns c = alike

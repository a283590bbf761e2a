use Rattle.calls_local.proofs.Wholes.{locality}
use Rattle.calls_local.proofs.laws.locality.Goals as goal

pub returns : goal.returns
returns c = locality

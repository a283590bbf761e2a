use Rattle.ec_core.proofs.shared.Breaks.{breaks_first}
use Rattle.ec_core.proofs.following_laws.breaks_are_first.Goals as goal

pub returns : goal.returns
returns c = breaks_first

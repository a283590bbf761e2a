use Rattle.ec_core.proofs.shared.Breaks.{follow_beginnings}
use Rattle.ec_core.proofs.following_laws.following_holds_of_prefixes.Goals as goal

pub returns : goal.returns
returns c = follow_beginnings

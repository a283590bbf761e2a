use Rattle.ec_core.proofs.shared.Breaks.{follow_or_breaks}
use Rattle.ec_core.proofs.following_laws.histories_follow_or_break.Goals as goal

pub returns : goal.returns
returns c = follow_or_breaks

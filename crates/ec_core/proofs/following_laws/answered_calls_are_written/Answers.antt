use Rattle.ec_core.proofs.shared.WrittenLists.{answered}
use Rattle.ec_core.proofs.following_laws.answered_calls_are_written.Goals as goal

pub returns : goal.returns
returns c = answered

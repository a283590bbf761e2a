use Rattle.ec_core.specs.Calls.{under_way}
use Rattle.ec_core.proofs.pending_calls.PendingCalls.new.Goals as goal

pub returns : goal.returns
unfolding under_way
returns c = λ t w lt. c.filled.ensures.at w lt

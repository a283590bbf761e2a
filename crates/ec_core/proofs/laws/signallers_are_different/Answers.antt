use Rattle.ec_core.specs.Counts.{past_at}
use Rattle.ec_core.proofs.shared.Moments.{beginnings}
use Rattle.ec_core.proofs.shared.Handing.{signallers_differ}
use Rattle.ec_core.proofs.shared.Signalling.{signallers_length}
use Rattle.ec_core.proofs.laws.signallers_are_different.Goals as goal

pub returns : goal.returns
returns c = λ t e k h d acc. (signallers_differ t e (past_at k h) d (beginnings t k h acc), signallers_length t e (past_at k h))

use Rattle.ec_core.specs.Counts.{past_at}
use Rattle.ec_core.proofs.shared.Handing.{as_declared}
use Rattle.ec_core.proofs.shared.Moments.{beginnings}
use Rattle.ec_core.proofs.laws.fixed_events_keep_their_signallers.Goals as goal

pub returns : goal.returns
returns c = λ t e k h acc fixed. as_declared t e (past_at k h) (beginnings t k h acc) fixed

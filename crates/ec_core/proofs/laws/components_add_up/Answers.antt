use Rattle.ec_core.specs.Counts.{past_at}
use Rattle.ec_core.proofs.shared.Moments.{beginnings}
use Rattle.ec_core.proofs.shared.Totals.{total_is}
use Rattle.ec_core.proofs.laws.components_add_up.Goals as goal

pub returns : goal.returns
returns c = λ t e k h acc. total_is t e (past_at k h) (beginnings t k h acc)

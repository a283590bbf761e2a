use Rattle.ec_core.specs.Counts.{past_at}
use Rattle.ec_core.proofs.shared.Bounds.{component_within, issued_within}
use Rattle.ec_core.proofs.shared.Moments.{beginnings}
use Rattle.ec_core.proofs.laws.counts_keep_the_limit.Goals as goal

pub returns : goal.returns
returns c = λ t k h acc. (λ e i. component_within t e i (past_at k h) (beginnings t k h acc), λ q. issued_within t q (past_at k h) (beginnings t k h acc))

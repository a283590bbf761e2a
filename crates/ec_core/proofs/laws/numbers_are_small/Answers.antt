use Rattle.ec_core.specs.Counts.{past_at}
use Rattle.ec_core.proofs.shared.Bounds.{told_small}
use Rattle.ec_core.proofs.shared.Moments.{beginnings, accepted_at}
use Rattle.ec_core.proofs.laws.numbers_are_small.Goals as goal

pub returns : goal.returns
returns c = λ t h k x d acc at. told_small t (past_at k h) x.worker x.act x.reply d (beginnings t k h acc) (accepted_at t h k x acc at)

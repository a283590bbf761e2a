use Rattle.ec_core.specs.Counts.{past_at}
use Rattle.ec_core.proofs.shared.Moments.{beginnings, accepted_at}
use Rattle.ec_core.proofs.ReplyKinds.{kind_is}
use Rattle.ec_core.proofs.laws.replies_fit_their_acts.Goals as goal

pub returns : goal.returns
returns c = λ t h k x d acc at. kind_is t (past_at k h) x.worker x.act x.reply d (beginnings t k h acc) (accepted_at t h k x acc at)

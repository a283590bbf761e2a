use Rattle.ec_draw.proofs.Balancing.{follow_yes, yes_follow}
use Rattle.ec_draw.proofs.laws.following_is_answered.Goals as goal

pub returns : goal.returns
returns c = λ rules past. (yes_follow rules past, follow_yes rules past)

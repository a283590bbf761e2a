use Rattle.ec_database.proofs.JoinedCalls.{following_means}
use Rattle.ec_database.proofs.laws.following_means_lists.Goals as goal

pub returns : goal.returns
returns c = following_means

use Rattle.ec_machine.proofs.Joined.{following_means}
use Rattle.ec_machine.proofs.laws.following_means_whole_lists.Goals as goal

pub returns : goal.returns
returns c = following_means

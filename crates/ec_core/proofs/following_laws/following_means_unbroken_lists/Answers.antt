use Rattle.ec_core.proofs.shared.JoinedLists.{following_stands}
use Rattle.ec_core.proofs.following_laws.following_means_unbroken_lists.Goals as goal

pub returns : goal.returns
returns c = following_stands

use Rattle.ec_core.proofs.shared.JoinedLists.{following_joins}
use Rattle.ec_core.proofs.following_laws.following_means_joined_lists.Goals as goal

pub returns : goal.returns
returns c = following_joins

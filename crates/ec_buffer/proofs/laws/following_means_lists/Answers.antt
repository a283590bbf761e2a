use Rattle.ec_buffer.proofs.Written.{following_means}
use Rattle.ec_buffer.proofs.laws.following_means_lists.Goals as goal

pub returns : goal.returns
returns c = following_means

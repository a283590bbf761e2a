use Rattle.ec_semaphore.proofs.Written.{following_uses, uses_are}
use Rattle.ec_semaphore.proofs.laws.following_means_uses.Goals as goal

pub returns : goal.returns
returns c = record { joined = following_uses; whole = uses_are }

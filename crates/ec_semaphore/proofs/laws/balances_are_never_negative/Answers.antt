use Rattle.ec_semaphore.proofs.Moments.{never_negative}
use Rattle.ec_semaphore.proofs.laws.balances_are_never_negative.Goals as goal

pub returns : goal.returns
returns c = never_negative

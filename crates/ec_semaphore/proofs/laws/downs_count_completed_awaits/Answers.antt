use Rattle.ec_semaphore.proofs.Moments.{downs_count}
use Rattle.ec_semaphore.proofs.laws.downs_count_completed_awaits.Goals as goal

pub returns : goal.returns
returns c = downs_count

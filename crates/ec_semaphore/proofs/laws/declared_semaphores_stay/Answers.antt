use Rattle.ec_semaphore.proofs.shared.Staying.{semaphores_stay}
use Rattle.ec_semaphore.proofs.laws.declared_semaphores_stay.Goals as goal

pub returns : goal.returns
returns c = semaphores_stay

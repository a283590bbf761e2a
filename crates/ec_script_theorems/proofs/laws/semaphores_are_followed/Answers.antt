use Rattle.ec_script_theorems.proofs.Semaphores.{semaphores_follow}
use Rattle.ec_script_theorems.proofs.laws.semaphores_are_followed.Goals as goal

pub returns : goal.returns
returns c = semaphores_follow

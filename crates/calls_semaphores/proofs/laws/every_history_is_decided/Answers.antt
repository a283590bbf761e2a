use Rattle.calls_semaphores.proofs.Deciding.{decided}
use Rattle.calls_semaphores.proofs.laws.every_history_is_decided.Goals as goal

pub returns : goal.returns
returns c = decided

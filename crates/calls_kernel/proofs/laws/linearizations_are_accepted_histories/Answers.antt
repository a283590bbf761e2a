use Rattle.calls_kernel.proofs.Played.{linearizations_are_accepted}
use Rattle.calls_kernel.proofs.laws.linearizations_are_accepted_histories.Goals as goal

pub returns : goal.returns
returns c = linearizations_are_accepted

use Rattle.calls_core.proofs.Positions.{histories_have_calls}
use Rattle.calls_local.proofs.laws.histories_have_calls.Goals as goal

pub returns : goal.returns
returns c = histories_have_calls

use Rattle.calls_local.proofs.Wholes.{one_object}
use Rattle.calls_local.proofs.laws.one_object.Goals as goal

pub returns : goal.returns
returns c = one_object

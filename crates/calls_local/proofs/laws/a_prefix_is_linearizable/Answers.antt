use Rattle.calls_local.proofs.Wholes.{a_prefix_is_linearizable}
use Rattle.calls_local.proofs.laws.a_prefix_is_linearizable.Goals as goal

pub returns : goal.returns
returns c = a_prefix_is_linearizable

use Rattle.ec_core.proofs.FallenShort.{index_zero_awaits}
use Rattle.ec_core.proofs.laws.index_zero_is_an_await.Goals as goal

pub returns : goal.returns
returns c = index_zero_awaits

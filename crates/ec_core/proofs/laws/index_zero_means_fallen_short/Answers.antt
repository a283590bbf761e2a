use Rattle.ec_core.proofs.FallenShort.{index_zero}
use Rattle.ec_core.proofs.laws.index_zero_means_fallen_short.Goals as goal

pub returns : goal.returns
returns c = index_zero

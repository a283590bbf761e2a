use Rattle.ec_core.proofs.shared.Counting.{components_count}
use Rattle.ec_core.proofs.laws.components_count_advances.Goals as goal

pub returns : goal.returns
returns c = components_count

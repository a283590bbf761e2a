use Rattle.ec_core.proofs.shared.Counting.{totals_count}
use Rattle.ec_core.proofs.laws.totals_count_advances.Goals as goal

pub returns : goal.returns
returns c = totals_count

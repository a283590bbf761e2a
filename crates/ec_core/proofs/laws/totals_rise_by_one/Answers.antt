use Rattle.ec_core.proofs.shared.Counting.{totals_rise}
use Rattle.ec_core.proofs.laws.totals_rise_by_one.Goals as goal

pub returns : goal.returns
returns c = totals_rise

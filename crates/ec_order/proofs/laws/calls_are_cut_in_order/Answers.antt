use Rattle.ec_order.proofs.Finished.{calls_cut}
use Rattle.ec_order.proofs.laws.calls_are_cut_in_order.Goals as goal

pub returns : goal.returns
returns c = calls_cut

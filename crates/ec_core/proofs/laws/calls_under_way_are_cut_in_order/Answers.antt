use Rattle.ec_core.proofs.CallsCut.{calls_are_cut}
use Rattle.ec_core.proofs.laws.calls_under_way_are_cut_in_order.Goals as goal

pub returns : goal.returns
returns c = calls_are_cut

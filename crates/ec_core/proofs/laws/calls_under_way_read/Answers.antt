use Rattle.ec_core.proofs.CallsCut.{calls_read}
use Rattle.ec_core.proofs.laws.calls_under_way_read.Goals as goal

pub returns : goal.returns
returns c = calls_read

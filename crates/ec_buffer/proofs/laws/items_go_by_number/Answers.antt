use Rattle.ec_buffer.proofs.InTime.{puts_go, gets_go}
use Rattle.ec_buffer.proofs.laws.items_go_by_number.Goals as goal

pub returns : goal.returns
returns c = record { put = puts_go; got = gets_go }

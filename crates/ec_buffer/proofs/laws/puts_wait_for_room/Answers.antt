use Rattle.ec_buffer.proofs.InTime.{puts_wait}
use Rattle.ec_buffer.proofs.laws.puts_wait_for_room.Goals as goal

pub returns : goal.returns
returns c = puts_wait

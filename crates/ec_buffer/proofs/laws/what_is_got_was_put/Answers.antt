use Rattle.ec_buffer.proofs.InTime.{got_was_put}
use Rattle.ec_buffer.proofs.laws.what_is_got_was_put.Goals as goal

pub returns : goal.returns
returns c = got_was_put

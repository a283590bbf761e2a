use Rattle.ec_script_theorems.proofs.Buffers.{buffers_follow}
use Rattle.ec_script_theorems.proofs.laws.buffers_are_followed.Goals as goal

pub returns : goal.returns
returns c = buffers_follow

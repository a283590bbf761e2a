use Rattle.ec_order.proofs.OwnCalls.{each_worker}
use Rattle.ec_order.proofs.laws.protocols_speak_of_these_calls.Goals as goal

pub returns : goal.returns
returns c = each_worker

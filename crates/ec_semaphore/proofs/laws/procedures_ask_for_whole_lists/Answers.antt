use Rattle.ec_semaphore.proofs.Written.{down_is, up_is, down_both_is}
use Rattle.ec_semaphore.proofs.laws.procedures_ask_for_whole_lists.Goals as goal

pub returns : goal.returns
returns c = record { down = down_is; up = up_is; both = down_both_is }

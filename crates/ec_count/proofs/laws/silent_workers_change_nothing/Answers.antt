use Rattle.ec_count.proofs.shared.Quiet.{silence_is}
use Rattle.ec_count.proofs.laws.silent_workers_change_nothing.Goals as goal

pub returns : goal.returns
returns c = silence_is

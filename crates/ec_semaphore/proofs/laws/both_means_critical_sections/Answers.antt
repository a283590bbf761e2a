use Rattle.ec_semaphore.proofs.Written.{following_both, guarded_are}
use Rattle.ec_semaphore.proofs.laws.both_means_critical_sections.Goals as goal

pub returns : goal.returns
returns c = record { joined = following_both; whole = guarded_are }

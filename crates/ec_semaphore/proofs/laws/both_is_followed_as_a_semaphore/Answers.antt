use Rattle.std.proofs.Common.{reverse}
use Rattle.ec_semaphore.specs.Both.{is_semaphore_sequencer}
use Rattle.ec_semaphore.proofs.shared.Implying.{both_implies_use}
use Rattle.ec_semaphore.proofs.shared.Lines.{not_common}
use Rattle.ec_semaphore.proofs.laws.both_is_followed_as_a_semaphore.Goals as goal

pub returns : goal.returns
returns c = λ s shapes t h one dec acc f. both_implies_use s (is_semaphore_sequencer s shapes) t (reverse h) one (not_common s shapes) dec acc f

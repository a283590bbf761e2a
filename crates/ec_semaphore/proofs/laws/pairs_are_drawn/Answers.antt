use Rattle.ec_semaphore.specs.Both.{is_semaphore_sequencer}
use Rattle.ec_semaphore.proofs.Drawing.{pairs_drawn}
use Rattle.ec_semaphore.proofs.shared.Lines.{not_common}
use Rattle.ec_semaphore.proofs.laws.pairs_are_drawn.Goals as goal

pub returns : goal.returns
returns c = λ s shapes t h dec acc f. pairs_drawn s (is_semaphore_sequencer s shapes) t h (not_common s shapes) dec acc f

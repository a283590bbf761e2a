use Rattle.std.proofs.Common.{reverse}
use Rattle.ec_semaphore.specs.Both.{is_semaphore_sequencer}
use Rattle.ec_semaphore.proofs.TicketOrder.{pairs_ordered}
use Rattle.ec_semaphore.proofs.shared.Lines.{not_common}
use Rattle.ec_semaphore.proofs.laws.tickets_agree.Goals as goal

pub returns : goal.returns
returns c = λ s shapes t h dec acc f. pairs_ordered s (is_semaphore_sequencer s shapes) t (reverse h) (not_common s shapes) dec acc f

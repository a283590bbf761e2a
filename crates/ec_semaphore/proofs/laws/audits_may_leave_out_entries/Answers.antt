use Rattle.ec_semaphore.proofs.shared.LeftOut.{counted_off, counted_going, pairing_going}
use Rattle.ec_semaphore.proofs.laws.audits_may_leave_out_entries.Goals as goal

pub returns : goal.returns
returns c = record { off = counted_off; goes = counted_going; pairs = pairing_going }

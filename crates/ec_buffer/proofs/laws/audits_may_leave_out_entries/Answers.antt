use Rattle.ec_buffer.proofs.shared.LeftOut.{delivering_off, delivering_going}
use Rattle.ec_buffer.proofs.laws.audits_may_leave_out_entries.Goals as goal

pub returns : goal.returns
returns c = record { off = delivering_off; goes = delivering_going }

use Rattle.ec_database.proofs.shared.LeftOut.{versioning_off, versioning_going}
use Rattle.ec_database.proofs.laws.audits_may_leave_out_entries.Goals as goal

pub returns : goal.returns
returns c = record { off = versioning_off; goes = versioning_going }

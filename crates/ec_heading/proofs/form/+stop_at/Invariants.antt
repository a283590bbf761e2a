use Rattle.std.proofs.Common.{length}
use Rattle.ec_heading.proofs.form.+stop_at.Given as goal

abbrev pub decreases-stop_at : goal.decreases-stop_at
decreases-stop_at l = length l.list.now

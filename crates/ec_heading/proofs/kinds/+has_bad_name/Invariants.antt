use Rattle.std.proofs.Common.{length}
use Rattle.ec_heading.proofs.kinds.+has_bad_name.Given as goal

abbrev pub decreases-has_bad_name : goal.decreases-has_bad_name
decreases-has_bad_name l = length l.list.now

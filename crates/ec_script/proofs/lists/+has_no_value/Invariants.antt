use Rattle.std.proofs.Common.{length}
use Rattle.ec_script.proofs.lists.+has_no_value.Given as goal

abbrev pub decreases-has_no_value : goal.decreases-has_no_value
decreases-has_no_value l = length l.list.now

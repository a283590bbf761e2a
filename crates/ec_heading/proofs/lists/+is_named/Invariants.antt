use Rattle.std.proofs.Common.{length}
use Rattle.ec_heading.proofs.lists.+is_named.Given as goal

abbrev pub decreases-is_named : goal.decreases-is_named
decreases-is_named l = length l.list.now

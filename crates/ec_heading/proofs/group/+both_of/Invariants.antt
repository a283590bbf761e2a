use Rattle.std.proofs.Common.{length}
use Rattle.ec_heading.proofs.group.+both_of.Given as goal

abbrev pub decreases-both_of : goal.decreases-both_of
decreases-both_of l = length l.groups.now

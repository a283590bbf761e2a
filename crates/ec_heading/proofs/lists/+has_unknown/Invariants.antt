use Rattle.std.proofs.Common.{length}
use Rattle.ec_heading.proofs.lists.+has_unknown.Given as goal

abbrev pub decreases-has_unknown : goal.decreases-has_unknown
decreases-has_unknown l = length l.list.now

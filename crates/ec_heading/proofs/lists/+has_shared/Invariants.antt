use Rattle.std.proofs.Common.{length}
use Rattle.ec_heading.proofs.lists.+has_shared.Given as goal

abbrev pub decreases-has_shared : goal.decreases-has_shared
decreases-has_shared l = length l.first.now

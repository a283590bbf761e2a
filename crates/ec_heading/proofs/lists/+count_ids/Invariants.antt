use Rattle.std.proofs.Common.{length}
use Rattle.ec_heading.proofs.lists.+count_ids.Given as goal

abbrev pub decreases-count_ids : goal.decreases-count_ids
decreases-count_ids l = length l.list.now

use Rattle.std.proofs.Common.{length}
use Rattle.ec_heading.proofs.lists.+push_ids.Given as goal

abbrev pub decreases-push_ids : goal.decreases-push_ids
decreases-push_ids l = length l.list.now

use Rattle.std.proofs.Common.{length}
use Rattle.ec_heading.proofs.group.+push_semaphores.Given as goal

abbrev pub decreases-push_semaphores : goal.decreases-push_semaphores
decreases-push_semaphores l = length l.groups.now

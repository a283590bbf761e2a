use Rattle.std.proofs.Common.{length}
use Rattle.ec_heading.proofs.heading.+name_workers.Given as goal

abbrev pub decreases-name_workers : goal.decreases-name_workers
decreases-name_workers l = length l.list.now

use Rattle.std.proofs.Common.{length}
use Rattle.ec_runner.proofs.wait_queue.+insertion_index.Given as goal

abbrev pub decreases-insertion_index : goal.decreases-insertion_index
decreases-insertion_index l = length l.queue.now

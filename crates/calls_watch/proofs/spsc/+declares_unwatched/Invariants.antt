use Rattle.std.proofs.Common.{length}
use Rattle.calls_watch.proofs.spsc.+declares_unwatched.Given as goal

abbrev pub decreases-declares_unwatched : goal.decreases-declares_unwatched
decreases-declares_unwatched l = length l.targets.now

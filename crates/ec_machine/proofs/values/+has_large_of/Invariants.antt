use Rattle.std.proofs.Common.{length}
use Rattle.ec_machine.proofs.values.+has_large_of.Given as goal

abbrev pub decreases-has_large_of : goal.decreases-has_large_of
decreases-has_large_of l = length l.values.now

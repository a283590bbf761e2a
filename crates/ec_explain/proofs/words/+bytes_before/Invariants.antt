use Rattle.std.proofs.Common.{length}
use Rattle.ec_explain.proofs.words.+bytes_before.Given as goal

abbrev pub decreases-bytes_before : goal.decreases-bytes_before
decreases-bytes_before l = length l.line.now

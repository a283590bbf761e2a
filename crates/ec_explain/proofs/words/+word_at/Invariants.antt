use Rattle.std.proofs.Common.{length}
use Rattle.ec_explain.proofs.words.+word_at.Given as goal

abbrev pub decreases-word_at : goal.decreases-word_at
decreases-word_at l = length l.line.now

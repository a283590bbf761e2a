use Rattle.std.proofs.Common.{length}
use Rattle.ec_explain.proofs.words.+words_before.Given as goal

abbrev pub decreases-words_before : goal.decreases-words_before
decreases-words_before l = length l.list.now

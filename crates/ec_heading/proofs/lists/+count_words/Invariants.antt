use Rattle.std.proofs.Common.{length}
use Rattle.ec_heading.proofs.lists.+count_words.Given as goal

abbrev pub decreases-count_words : goal.decreases-count_words
decreases-count_words l = length l.list.now

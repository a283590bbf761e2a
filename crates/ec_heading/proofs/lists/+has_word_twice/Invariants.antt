use Rattle.std.proofs.Common.{length}
use Rattle.ec_heading.proofs.lists.+has_word_twice.Given as goal

abbrev pub decreases-has_word_twice : goal.decreases-has_word_twice
decreases-has_word_twice l = length l.list.now

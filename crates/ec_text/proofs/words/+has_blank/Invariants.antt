use Rattle.std.proofs.Common.{length}
use Rattle.ec_text.proofs.words.+has_blank.Given as goal

abbrev pub decreases-has_blank : goal.decreases-has_blank
decreases-has_blank l = length l.line.now

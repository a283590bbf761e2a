use Rattle.std.proofs.Common.{length}
use Rattle.calls_text.proofs.literal.+has_bytes.Given as goal

abbrev pub decreases-has_bytes : goal.decreases-has_bytes
decreases-has_bytes l = length l.word.now

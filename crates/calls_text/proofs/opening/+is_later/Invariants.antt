use Rattle.std.proofs.Common.{length}
use Rattle.calls_text.proofs.opening.+is_later.Given as goal

abbrev pub decreases-is_later : goal.decreases-is_later
decreases-is_later l = length l.from.now

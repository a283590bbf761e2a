use Rattle.std.proofs.Common.{length}
use Rattle.calls_text.proofs.running.+has_no_number.Given as goal

abbrev pub decreases-has_no_number : goal.decreases-has_no_number
decreases-has_no_number l = length l.list.now

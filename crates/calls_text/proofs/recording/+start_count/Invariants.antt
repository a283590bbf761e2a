use Rattle.std.proofs.Common.{length}
use Rattle.calls_text.proofs.recording.+start_count.Given as goal

abbrev pub decreases-start_count : goal.decreases-start_count
decreases-start_count l = length l.from.now

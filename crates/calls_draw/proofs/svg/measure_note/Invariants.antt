use Rattle.std.proofs.Common.{length}
use Rattle.calls_draw.proofs.svg.measure_note.Given as goal

abbrev pub decreases-loop-line : goal.decreases-loop-line
decreases-loop-line l = length l.rest

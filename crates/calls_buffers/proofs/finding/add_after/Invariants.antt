use Rattle.std.proofs.Common.{◌-◌, length}
use Rattle.calls_buffers.proofs.finding.add_after.Given as goal

abbrev pub decreases-loop-next : goal.decreases-loop-next
decreases-loop-next l = length l.list - l.next
